-- What the machine has belongs to the store.
use Rattle.std.specs.Prelude.{◌≡◌, ℕ, List, [], ◌∷◌, ◌++◌, All, slice_get, Some}
use Rattle.std.proofs.Common.{ap, sym, subst, inl, inr, ◌∙◌}
use Rattle.std.proofs.lemmas.List.{append_assoc, append-nil}
use Rattle.std.proofs.lemmas.List.Elements.{All-contains, All-nil, All-push, All-weaker}
use Rattle.larch_rewrite_step.specs.Encoding.{AreOfStore}
use Rattle.larch_rewrite_step.specs.declared.encoding.Encoding.{Encoding}
use Rattle.larch_base.proofs.Members.{got_contains}
use Rattle.larch_store.specs.Numbered.{Numbered}
use Rattle.larch_store.specs.Stored.{Belongs, AllBelong, Grows}
use Rattle.larch_store.proofs.Growth.{belongs_stays, all_belong_stay}
use Rattle.larch_rewrite.specs.Kept.{IsFront, IsKeptAt, IsKeptBehind, IsOfStore, kept_of}
use Rattle.larch_rewrite.specs.Level.{IsFrameOf, IsTurnOf}
use Rattle.larch_rewrite.specs.declared.kept.KeptForm.{KeptForm}
use Rattle.larch_rewrite.specs.declared.level.Frame.{Frame}
use Rattle.larch_rewrite.specs.declared.level.Means.{Means}
use Rattle.larch_rewrite.specs.declared.level.Turn.{Turn}
use Rattle.larch_rewrite.specs.declared.level.Turn.TheVariants.{Begin, Arguments, Root, Finish}

pub kept_stay : (s u : List Numbered) (kept : List KeptForm) → Grows s u → All (IsOfStore s) kept
    → All (IsOfStore u) kept
kept_stay s u kept g h =
    All-weaker (IsOfStore s) (IsOfStore u)
    (λ k p. (belongs_stays s u k.start g p.0, belongs_stays s u k.form g p.1)) kept h

pub frames_stay : (s u : List Numbered) (frames : List Frame) → Grows s u → All (IsFrameOf s) frames
    → All (IsFrameOf u) frames
frames_stay s u frames g h =
    All-weaker (IsFrameOf s) (IsFrameOf u)
    (λ f p. (
      belongs_stays s u f.level.start g p.0,
      belongs_stays s u f.level.term g p.1,
      all_belong_stay s u f.done g p.2,
      p.3,
    )) frames h

kept_behind : (s : List Numbered) (kept new : List KeptForm) (k : KeptForm) → All (IsOfStore s) kept → IsOfStore s k
    → IsKeptBehind kept k new → All (IsOfStore s) new
kept_behind s kept new k h o (inl e) = subst (All (IsOfStore s)) (sym e) h
kept_behind s kept new k h o (inr e) = subst (All (IsOfStore s)) (sym e) (All-push (IsOfStore s) kept k h o)

-- so does what is written
pub none_of_store : (s : List Numbered) (encodings : List Encoding) → encodings ≡ [] → AreOfStore s encodings
none_of_store s encodings e = subst (AreOfStore s) (sym e) (All-nil (λ k. Belongs s k.term))

pub means_stay : (s : List Numbered) (m n : Means) → n ≡ m → AreOfStore s m.encodings → AreOfStore s n.encodings
means_stay s m n e h = subst (λ (o : Means). AreOfStore s o.encodings) (sym e) h

-- what is kept of a turn's level belongs to the store
pub all_kept : (s : List Numbered) (kept new : List KeptForm) (turn : Turn) (n : ℕ) → IsKeptAt kept turn n new
    → IsTurnOf s turn → All (IsOfStore s) kept → All (IsOfStore s) new
all_kept s kept new (Begin l) n e t h = subst (All (IsOfStore s)) (sym e) h
all_kept s kept new (Arguments f) n e t h = subst (All (IsOfStore s)) (sym e) h
all_kept s kept new (Root l) n e t h = subst (All (IsOfStore s)) (sym e) h
all_kept s kept new (Finish l) n e t h = kept_behind s kept new (kept_of l n) h (t.0, t.1) e

-- further ones are kept behind others
pub front_same : (kept new : List KeptForm) → new ≡ kept → IsFront kept new
front_same kept new e = ([], e ∙ sym (append-nil kept))

pub front_further : (kept new last : List KeptForm) → IsFront kept new → IsFront new last → IsFront kept last
front_further kept new last (xs, p) (ys, q) =
    (xs ++ ys, q ∙ ap (λ zs. zs ++ ys) p ∙ append_assoc kept xs ys)

pub front_at : (kept new : List KeptForm) (turn : Turn) (n : ℕ) → IsKeptAt kept turn n new → IsFront kept new
front_at kept new (Begin l) n e = front_same kept new e
front_at kept new (Arguments f) n e = front_same kept new e
front_at kept new (Root l) n e = front_same kept new e
front_at kept new (Finish l) n (inl e) = front_same kept new e
front_at kept new (Finish l) n (inr e) = (kept_of l n ∷ [], e)

-- an argument of a shared term belongs to the store
pub child_belongs : (s xs : List Numbered) (i : ℕ) (x : Numbered) → AllBelong s xs → slice_get xs i ≡ Some x
    → Belongs s x
child_belongs s xs i x h e = All-contains (Belongs s) xs x h (got_contains xs i x e)
