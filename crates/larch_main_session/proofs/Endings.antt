-- How a session goes on and ends.
use Rattle.std.proofs.Common.{◌≡◌, ◌≤◌, ◌+◌, ℕ, ◌⊎◌, inl, inr, Bool, true, false, List, [], ◌∷◌, ◌++◌, length, Option}
use Rattle.std.proofs.Common.{Some, None, refl, sym, subst, ◌∙◌, append_assoc, append-nil, arith}
use Rattle.std.specs.Prelude.{sum_by}
use Rattle.std.specs.Io.KnownBytes.{Appends, Consumes, IsAtEnd}
use Rattle.std.proofs.KnownBytes.{Consumes-nil, Consumes-trans, Appends-nil, Appends-trans}
use Rattle.std.proofs.lemmas.List.Sums.{sum_by-append, sum_by-cons}
use Rattle.larch_io.specs.Faults.{Rose}
use Rattle.larch_io.specs.Put.{PutsFront}
use Rattle.larch_io.specs.Reader.{ReadsBytes}
use Rattle.larch_main_session.specs.declared.progress.Progress.{Progress}
use Rattle.larch_main_status.specs.declared.status.Status.{Status}
use Rattle.larch_main_status.specs.Faults.{Counts, read_failed, sink_failed}
use Rattle.larch_main_session.specs.Endings.{BreaksOff, SessionAnswers, SessionFront, SessionWrites}
use Rattle.larch_main_session.specs.Endings.{TakesInput, TakesWhole}
use Rattle.larch_main_status.specs.Status.{IsEnd}
use Rattle.larch_main_session.specs.Progress.{state_of, Machine, at_line, Lacks, MayFollow, Replies, Stopped, Wants}
use Rattle.larch_main_session.specs.Replies.{Reply, said, Spells, IsShown, Texts, no_texts, Front, no_front}
use Rattle.larch_main_session.specs.Replies.{front_within, steps_of}
use Rattle.larch_main_session.specs.Reports.{Reported}
use Rattle.larch_main_session.specs.Session.{IsInput, State, start, with_status, waiting, Course, Session}
use Rattle.larch_main_session.specs.Session.{goes_on, ends, breaks_off}
use Rattle.larch_main_session.specs.SoFar.{SoFar}
use Rattle.larch_main_status.specs.Say.{Says}
use Rattle.larch_main_status.proofs.Statuses.{quiet, sink_end, source_end}
use Rattle.larch_main_session.proofs.Statuses.{takes_end, writes_end}
use Rattle.larch_main_session.proofs.Steps.{may_follow_both}
use Rattle.larch_main_session.proofs.Shapes.{Shape, step_shape, session_ends}
use Rattle.larch_main_session.proofs.Texts.{front_spelled, single, texts_spelled, texts_then, texts_then_front}

-- what may still come: what the source tells that it has, or nothing
abbrev pub known_rest : Option (List ℕ) → List ℕ
known_rest None = []
known_rest (Some bytes) = bytes

pub input_is : (left leaves : Option (List ℕ)) (given : List ℕ) → Consumes left leaves given
    → IsInput left (given ++ known_rest leaves)
input_is None leaves given c = tt
input_is (Some xs) None given c = absurd c
input_is (Some xs) (Some ys) given c = c

end_is : (leaves : Option (List ℕ)) → IsAtEnd leaves → known_rest leaves ≡ []
end_is None e = refl
end_is (Some bytes) e = e

abbrev pub machine : Progress → Machine
machine progress = at_line (state_of progress)

-- a step of the code that goes on, having written this, by so many steps of proof work
abbrev pub GoesOn : Progress → Progress → Option (List ℕ) → Option (List ℕ) → ℕ → ℕ → List ℕ → Type 0
GoesOn p q leaves after was is written = Replies (machine p) p q leaves after was is written

-- a step of the code that stops, with this to be written, and this status
abbrev pub StopsWith : Progress → Progress → Option (List ℕ) → Option (List ℕ) → ℕ → ℕ → List ℕ → Status → Type 0
StopsWith p q leaves after was is written status = Stopped (machine p) p q leaves after was is written status

-- a text that stops a session shows nothing
said_shown : (text : List ℕ) → IsShown (said text) text
said_shown text = record { spells = refl; justifies = tt }

module _ (limit : ℕ) (left held : Option (List ℕ)) (began : ℕ) where
  -- a session that begins
  pub so_far_start : (p : Progress) → state_of p ≡ start limit → p.reader.kept ≡ [] → p.reader.ended ≡ false
      → SoFar limit p left left held held began began
  so_far_start p is nothing still = record {
    given = [];
    written = [];
    replies = [];
    gave = Consumes-nil left;
    over = λ e. cc;
    wrote = Appends-nil held;
    texts = no_texts;
    least = omega arith;
    most = omega arith;
    next = λ ended rest others ending last follows course.
        subst (λ state. Course ended state rest others ending last) is
        (subst (λ kept. Course ended (state_of p) (kept ++ rest) others ending last) nothing course);
  }

  -- nothing was written before the first step
  pub nothing_yet : SessionFront limit left left held held
  nothing_yet =
      let input = known_rest left in
      let end = session_ends (start limit) input in
      record {
        input = input;
        front = [];
        is_input = input_is left left [] (Consumes-nil left);
        begins = record { replies = end.0; status = end.1; last = end.2; course = end.4; fronts = no_front };
        written = Appends-nil held;
      }

  pub nothing_reported : Reported limit left held held began began
  nothing_reported =
      let input = known_rest left in
      let end = session_ends (start limit) input in
      record {
        input = input;
        front = [];
        replies = end.0;
        status = end.1;
        last = end.2;
        is_input = input_is left left [] (Consumes-nil left);
        course = end.4;
        written = Appends-nil held;
        shown = no_front;
        least = omega arith;
        most = omega arith;
      }

  module _ (p : Progress) (leaves holds : Option (List ℕ)) (was : ℕ)
      (s : SoFar limit p left leaves held holds began was)
    where
      -- the source ended, where a step read that it did
      over_after : (q : Progress) (after : Option (List ℕ)) (given : List ℕ)
          → ReadsBytes p.reader q.reader leaves after given → q.reader.ended ≡ true → IsAtEnd after
      over_after q after given r e = elim (r.ends e) [
        | inl before ↦ subst IsAtEnd (sym (r.quiet before).1) (s.over before)
        | inr at_end ↦ at_end
      ]

      -- what follows in the whole input
      whole_follows : (q : Progress) (after : Option (List ℕ)) (given : List ℕ)
          → ReadsBytes p.reader q.reader leaves after given → MayFollow q.reader.ended true (known_rest after)
      whole_follows q after given r = λ e. (refl, end_is after (over_after q after given r e))

      -- the whole input, where a step was given this
      input_after : (q : Progress) (after : Option (List ℕ)) (given : List ℕ)
          → ReadsBytes p.reader q.reader leaves after given → IsInput left ((s.given ++ given) ++ known_rest after)
      input_after q after given r =
          input_is left after (s.given ++ given) (Consumes-trans left leaves after s.given given s.gave r.gave)

      -- the course of a whole session, where a step reads this and others follow
      course_after : (q : Progress) (after : Option (List ℕ)) (given rest : List ℕ) (ended : Bool)
          (others : List Reply) (status : Status) (last : State)
          → ReadsBytes p.reader q.reader leaves after given → MayFollow q.reader.ended ended rest
          → Course ended (state_of p) (p.reader.kept ++ (given ++ rest)) others (with_status status) last
          → Course ended (start limit) ((s.given ++ given) ++ rest) (s.replies ++ others) (with_status status) last
      course_after q after given rest ended others status last reads follows course =
          subst (λ bytes. Course ended (start limit) bytes (s.replies ++ others) (with_status status) last)
          (sym (append_assoc s.given given rest))
          (s.next ended (given ++ rest) others (with_status status) last
          (may_follow_both given ended rest reads follows) course)

      -- a front of what a session writes: what it wrote, and a front of the texts of what it goes on with
      so_far_front : (after kept : Option (List ℕ)) (input front : List ℕ) (others : List Reply) (status : Status)
          (last : State) → IsInput left input
          → Course true (start limit) input (s.replies ++ others) (with_status status) last
          → Front IsShown others front → Appends holds kept front → SessionFront limit left after held kept
      so_far_front after kept input front others status last is course fronts put = record {
        input = input;
        front = s.written ++ front;
        is_input = is;
        begins = record {
          replies = s.replies ++ others;
          status = status;
          last = last;
          course = course;
          fronts = front_spelled (texts_then_front s.texts fronts);
        };
        written = Appends-trans held holds kept s.written front s.wrote put;
      }

      -- what comes of the replies so far and of these
      reported_with : (kept : Option (List ℕ)) (is : ℕ) (input front : List ℕ) (others : List Reply) (status : Status)
          (last : State) → IsInput left input
          → Course true (start limit) input (s.replies ++ others) (with_status status) last
          → Front IsShown others front → Appends holds kept front
          → was ≤ is → is ≤ was + sum_by steps_of others → Reported limit left held kept began is
      reported_with kept is input front others status last is_input course fronts put more most = record {
        input = input;
        front = s.written ++ front;
        replies = s.replies ++ others;
        status = status;
        last = last;
        is_input = is_input;
        course = course;
        written = Appends-trans held holds kept s.written front s.wrote put;
        shown = texts_then_front s.texts fronts;
        least = let least = s.least in omega (arith, least, more);
        most =
            let so_far = s.most in let sum = sum_by-append steps_of s.replies others in
            omega (arith, so_far, sum, most);
      }

      -- a session that goes on by a step
      pub so_far_on : (q : Progress) (after kept : Option (List ℕ)) (is : ℕ) (written : List ℕ)
          → GoesOn p q leaves after was is written → Appends holds kept written
          → SoFar limit q left after held kept began is
      so_far_on q after kept is written m put =
          let given = m.makes.given in
          let reads = m.makes.reads in
          record {
            given = s.given ++ given;
            written = s.written ++ written;
            replies = s.replies ++ (m.reply ∷ []);
            gave = Consumes-trans left leaves after s.given given s.gave reads.gave;
            over = over_after q after given reads;
            wrote = Appends-trans held holds kept s.written written s.wrote put;
            texts = texts_then s.texts (single m.reply written m.shown);
            least = let before = s.least in let more = m.least in omega (arith, before, more);
            most =
                let before = s.most in let more = m.most in
                let sum = sum_by-append steps_of s.replies (m.reply ∷ []) in
                let one = sum_by-cons steps_of m.reply [] in
                omega (arith, before, more, sum, one);
            next = λ ended rest others ending last follows course.
                let longer = s.next ended (given ++ rest) (m.reply ∷ others) ending last
                (may_follow_both given ended rest reads follows)
                (goes_on m.reply (m.makes.step_is ended rest follows) course) in
                subst (λ bytes. Course ended (start limit) bytes ((s.replies ++ (m.reply ∷ [])) ++ others) ending last)
                (sym (append_assoc s.given given rest))
                (subst (λ all. Course ended (start limit) (s.given ++ (given ++ rest)) all ending last)
                (sym (append_assoc s.replies (m.reply ∷ []) others)) longer);
          }

      -- a session that stops: whatever follows, and so on its whole input
      stopped : (q : Progress) (after : Option (List ℕ)) (is : ℕ) (text : List ℕ) (status : Status)
          (m : StopsWith p q leaves after was is text status) (ended : Bool) (rest : List ℕ)
          → MayFollow q.reader.ended ended rest
          → Session ended (start limit) ((s.given ++ m.makes.given) ++ rest) (s.written ++ text) (with_status status)
          (state_of q)
      stopped q after is text status m ended rest follows = record {
        replies = s.replies ++ (said text ∷ []);
        course =
            course_after q after m.makes.given rest ended (said text ∷ []) status (state_of q) m.makes.reads follows
            (ends (m.makes.step_is ended rest follows));
        texts = texts_spelled (texts_then s.texts (single (said text) text (said_shown text)));
      }

      -- a session whose source fails
      pub so_far_breaks : (q : Progress) (after : Option (List ℕ)) → Wants (machine p) p.reader q.reader leaves after
          → BreaksOff limit left after held holds
      so_far_breaks q after w = record {
        given = s.given ++ w.given;
        output = s.written;
        last = state_of p;
        gave = Consumes-trans left leaves after s.given w.given s.gave w.reads.gave;
        replies = record {
          replies = s.replies ++ [];
          course =
              s.next false w.given [] waiting (state_of p) (λ over. cc ((w.reads.quiet over).2, w.open_still))
              (breaks_off w.step_is);
          texts =
              subst (λ all. Texts Spells all s.written) (sym (append-nil s.replies)) (texts_spelled s.texts);
        };
        written = s.wrote;
      }

      -- nothing more was written, whatever became of the source
      pub so_far_nothing : (after : Option (List ℕ)) → SessionFront limit left after held holds
      so_far_nothing after =
          let input = known_rest leaves in
          let end = session_ends (state_of p) (p.reader.kept ++ input) in
          so_far_front after holds (s.given ++ input) [] end.0 end.1 end.2
          (input_is left leaves s.given s.gave)
          (s.next true input end.0 (with_status end.1) end.2 (λ e. (refl, end_is leaves (s.over e))) end.4)
          no_front (Appends-nil holds)

      pub reported_nothing : (is : ℕ) → is ≡ was → Reported limit left held holds began is
      reported_nothing is same =
          let input = known_rest leaves in
          let end = session_ends (state_of p) (p.reader.kept ++ input) in
          reported_with holds is (s.given ++ input) [] end.0 end.1 end.2 (input_is left leaves s.given s.gave)
          (s.next true input end.0 (with_status end.1) end.2 (λ e. (refl, end_is leaves (s.over e))) end.4)
          no_front (Appends-nil holds) (omega (arith, same)) (omega (arith, same))

      -- memory ran out: for a reply, or not
      pub reported_lacking : (q : Progress) (after : Option (List ℕ)) (is : ℕ)
          → ((is ≡ was) ⊎ Lacks (machine p) p q leaves after was is) → Reported limit left held holds began is
      reported_lacking q after is lacks = elim lacks [
        | inl same ↦ reported_nothing is same
        | inr m ↦
            let input = known_rest after in
            let follows = whole_follows q after m.makes.given m.makes.reads in
            let end = session_ends m.next (q.reader.kept ++ input) in
            let sum = sum_by-cons steps_of m.reply end.0 in
            let most = m.most in
            reported_with holds is ((s.given ++ m.makes.given) ++ input) [] (m.reply ∷ end.0) end.1 end.2
            (input_after q after m.makes.given m.makes.reads)
            (course_after q after m.makes.given input true (m.reply ∷ end.0) end.1 end.2 m.makes.reads follows
            (goes_on m.reply (m.makes.step_is true input follows) end.4))
            no_front (Appends-nil holds) m.least (omega (arith, most, sum))
      ]

      -- a front of the reply of a step that goes on
      module _ (q : Progress) (after kept : Option (List ℕ)) (is : ℕ) (written : List ℕ)
          (m : GoesOn p q leaves after was is written) (put : PutsFront holds kept written) where
        -- what the session goes on with
        further : (replies : List Reply) × (status : Status) × (last : State)
            × Course true (start limit) ((s.given ++ m.makes.given) ++ known_rest after)
            (s.replies ++ (m.reply ∷ replies)) (with_status status) last
        further =
            let input = known_rest after in
            let end = session_ends (state_of q) (q.reader.kept ++ input) in
            let follows = whole_follows q after m.makes.given m.makes.reads in (
              end.0,
              end.1,
              end.2,
              course_after q after m.makes.given input true (m.reply ∷ end.0) end.1 end.2 m.makes.reads follows
                  (goes_on m.reply (m.makes.step_is true input follows) end.4),
            )

        reply_front : (others : List Reply) → Front IsShown (m.reply ∷ others) put.0
        reply_front others = front_within put.0 put.1 (subst (IsShown m.reply) put.2 m.shown)

        pub so_far_reply_cut : SessionFront limit left after held kept
        so_far_reply_cut =
            so_far_front after kept ((s.given ++ m.makes.given) ++ known_rest after) put.0 (m.reply ∷ further.0)
            further.1 further.2 (input_after q after m.makes.given m.makes.reads) further.3 (reply_front further.0)
            put.4

        pub reported_cut : Reported limit left held kept began is
        reported_cut =
            let sum = sum_by-cons steps_of m.reply further.0 in
            let most = m.most in
            reported_with kept is ((s.given ++ m.makes.given) ++ known_rest after) put.0 (m.reply ∷ further.0)
            further.1 further.2 (input_after q after m.makes.given m.makes.reads) further.3 (reply_front further.0)
            put.4 m.least (omega (arith, most, sum))

      -- the last text was to be written
      module _ (q : Progress) (after : Option (List ℕ)) (is : ℕ) (text : List ℕ) (status : Status)
          (m : StopsWith p q leaves after was is text status) where
        so_far_answers : (kept : Option (List ℕ)) → Appends holds kept text
            → SessionAnswers limit left after held kept status
        so_far_answers kept put = record {
          input = (s.given ++ m.makes.given) ++ known_rest after;
          output = s.written ++ text;
          last = state_of q;
          is_input = input_after q after m.makes.given m.makes.reads;
          session =
              stopped q after is text status m true (known_rest after)
              (whole_follows q after m.makes.given m.makes.reads);
          written = Appends-trans held holds kept s.written text s.wrote put;
        }

        so_far_whole : (kept : Option (List ℕ)) → Appends holds kept text → TakesWhole limit left after held kept status
        so_far_whole kept put = record {
          given = s.given ++ m.makes.given;
          output = s.written ++ text;
          last = state_of q;
          gave = Consumes-trans left leaves after s.given m.makes.given s.gave m.makes.reads.gave;
          whole = by q.reader.ended refl;
          written = Appends-trans held holds kept s.written text s.wrote put;
        }
          where
            at : (ended : Bool) → MayFollow q.reader.ended ended []
                → Session ended (start limit) (s.given ++ m.makes.given) (s.written ++ text) (with_status status)
                (state_of q)
            at ended follows =
                subst (λ bytes. Session ended (start limit) bytes (s.written ++ text) (with_status status) (state_of q))
                (append-nil (s.given ++ m.makes.given)) (stopped q after is text status m ended [] follows)

            by : (b : Bool) → q.reader.ended ≡ b
                → (Session true (start limit) (s.given ++ m.makes.given) (s.written ++ text) (with_status status)
                (state_of q) × IsAtEnd after)
                ⊎ Session false (start limit) (s.given ++ m.makes.given) (s.written ++ text) (with_status status)
                (state_of q)
            by true e = inl (at true (λ _. (refl, refl)), over_after q after m.makes.given m.makes.reads e)
            by false e = inr (at false (λ t. cc))

        -- the course of the whole session
        course_to_end : Course true (start limit) ((s.given ++ m.makes.given) ++ known_rest after)
            (s.replies ++ (said text ∷ [])) (with_status status) (state_of q)
        course_to_end =
            let follows = whole_follows q after m.makes.given m.makes.reads in
            course_after q after m.makes.given (known_rest after) true (said text ∷ []) status (state_of q)
            m.makes.reads follows (ends (m.makes.step_is true (known_rest after) follows))

        text_front : (front rest : List ℕ) → text ≡ front ++ rest → Front IsShown (said text ∷ []) front
        text_front front rest same = front_within front rest (subst (IsShown (said text)) same (said_shown text))

        so_far_text_cut : (kept : Option (List ℕ)) → PutsFront holds kept text → SessionFront limit left after held kept
        so_far_text_cut kept put =
            so_far_front after kept ((s.given ++ m.makes.given) ++ known_rest after) put.0 (said text ∷ []) status
            (state_of q) (input_after q after m.makes.given m.makes.reads) course_to_end
            (text_front put.0 put.1 put.2) put.4

        -- a session stops with one of its statuses
        end_of : IsEnd status
        end_of =
            let rest = known_rest after in
            let input = p.reader.kept ++ (m.makes.given ++ rest) in
            subst (Shape true (length input))
            (m.makes.step_is true rest (whole_follows q after m.makes.given m.makes.reads))
            (step_shape true (state_of p) input)

        reported_at_end : (kept : Option (List ℕ)) (front rest : List ℕ) → text ≡ front ++ rest
            → Appends holds kept front → Reported limit left held kept began is
        reported_at_end kept front rest split put =
            let same = m.none in
            reported_with kept is ((s.given ++ m.makes.given) ++ known_rest after) front (said text ∷ []) status
            (state_of q) (input_after q after m.makes.given m.makes.reads) course_to_end
            (text_front front rest split) put (omega (arith, same)) (omega (arith, same))

        module _ (kept : Option (List ℕ)) (before now : ℕ) (result : Status)
            (told : Says holds kept before now text status result) where
          pub said_output : SessionWrites limit left after held kept result
          said_output = elim told [
            | inl whole ↦ subst (SessionWrites limit left after held kept) (sym whole.0)
                (writes_end limit left after held kept status end_of (so_far_answers kept whole.1))
            | inr front ↦ elim front [
              | inl failed ↦
                  subst (SessionWrites limit left after held kept) (sym failed.0) (so_far_text_cut kept failed.1)
              | inr lacking ↦
                  subst (SessionWrites limit left after held kept) (sym lacking.0) (so_far_text_cut kept lacking.1)
            ]
          ]

          pub said_input : TakesInput limit left after held kept result
          said_input = elim told [
            | inl whole ↦ subst (TakesInput limit left after held kept) (sym whole.0)
                (takes_end limit left after held kept status end_of (so_far_whole kept whole.1))
            | inr front ↦ elim front [
              | inl failed ↦ subst (TakesInput limit left after held kept) (sym failed.0) tt
              | inr lacking ↦ subst (TakesInput limit left after held kept) (sym lacking.0) tt
            ]
          ]

          pub said_reports : Reported limit left held kept began is
          said_reports = elim told [
            | inl whole ↦ reported_at_end kept text [] (sym (append-nil text)) whole.1
            | inr front ↦ elim front [
              | inl failed ↦ let put = failed.1 in reported_at_end kept put.0 put.1 put.2 put.4
              | inr lacking ↦ let put = lacking.1 in reported_at_end kept put.0 put.1 put.2 put.4
            ]
          ]

          pub said_source : (old new : ℕ) → new ≡ old → Counts (read_failed result) old new
          said_source old new same = elim told [
            | inl whole ↦ subst (λ r. Counts (read_failed r) old new) (sym whole.0)
                (quiet (read_failed status) old new (source_end status end_of) same)
            | inr front ↦ elim front [
              | inl failed ↦ subst (λ r. Counts (read_failed r) old new) (sym failed.0) same
              | inr lacking ↦ subst (λ r. Counts (read_failed r) old new) (sym lacking.0) same
            ]
          ]

          pub said_sink : (first : ℕ) → before ≡ first → Counts (sink_failed result) first now
          said_sink first same = elim told [
            | inl whole ↦ subst (λ r. Counts (sink_failed r) first now) (sym whole.0)
                (quiet (sink_failed status) first now (sink_end status end_of) (whole.2 ∙ same))
            | inr front ↦ elim front [
              | inl failed ↦
                  subst (λ r. Counts (sink_failed r) first now) (sym failed.0) (subst (λ n. Rose n now) same failed.2)
              | inr lacking ↦ subst (λ r. Counts (sink_failed r) first now) (sym lacking.0) (lacking.2 ∙ same)
            ]
          ]
