-- A certificate has one text in each version, and no text has two certificates.
use Rattle.std.proofs.Common.{◌≡◌, ℕ, ◌+◌, ◌<◌, ◌^◌, ◌==◌, ◌&&◌, cond, Bool, true, false, List, [], ◌∷◌, ◌++◌, length}
use Rattle.std.proofs.Common.{Option, Some, None, Result, Ok, Err, refl, sym, ◌∙◌, ap, arith, subst}
use Rattle.std.specs.Prelude.{bytes_eq}
use Rattle.std.specs.Result.{result_ok}
use Rattle.std.specs.List.{join_with_byte}
use Rattle.std.proofs.lemmas.Bool.{false≢true}
use Rattle.std.proofs.lemmas.Option.{none-some, same_Some, some_pair_parts}
use Rattle.std.proofs.lemmas.List.Sums.{count_by-le-length}
use Rattle.std.proofs.lemmas.List.Splits.{length-slice_split}
use Rattle.std.proofs.lemmas.Slice.Eq.{bytes_eq-Decides}
use Rattle.larch_certificate.specs.declared.line.Line.{Line}
use Rattle.larch_certificate_text.specs.ByteClasses.{Lacks, is_line_byte}
use Rattle.larch_certificate_text.specs.CertificateText.{here, header, lines_text, certificate_text, FitLines, Writable}
use Rattle.larch_certificate_text.specs.CertificateText.{Reading, put_before, lines_by, ending, read_lines, version_of}
use Rattle.larch_certificate_text.specs.CertificateText.{IsRead, with_version, read_by, read_pieces, read_certificate}
use Rattle.larch_certificate_text.specs.CertificateText.{InGrammar, OutsideBehind, OutsidePieces, IsFirstOutside}
use Rattle.larch_certificate_text.specs.CertificateText.{IsTextOf, FirstOutside, no_line, not_ended, further}
use Rattle.larch_certificate_text.specs.EquationText.{is_nothing}
use Rattle.larch_certificate_text.specs.ListText.{split_at}
use Rattle.larch_certificate_text.specs.Parts.{IsSmall}
use Rattle.larch_certificate_text.specs.LineText.{line_text, read_line}
use Rattle.larch_certificate_text.proofs.Bytes.{lacks}
use Rattle.larch_certificate_text.proofs.EquationLaws.{nothing_left}
use Rattle.larch_certificate_text.proofs.ListLaws.{split_first, joined_split}
use Rattle.larch_certificate_text.proofs.LineLaws.{line_again, line_back, line_lacks}

-- ---- what is written is read again

-- the pieces of written lines
abbrev pub pieces : Bool → ℕ → List Line → List (List ℕ)
pieces v n [] = [] ∷ []
pieces v n (r ∷ rs) = line_text (here v n) r ∷ pieces v (n + 1) rs

split_lines : (v : Bool) (n : ℕ) (rs : List Line) → FitLines n rs → split_at 10 (lines_text v n rs) ≡ pieces v n rs
split_lines v n [] f = refl
split_lines v n (r ∷ rs) f =
    split_first 10 (line_text (here v n) r) (lines_text v (n + 1) rs) (line_lacks (here v n) r f.0 f.1)
    ∙ ap (λ z. line_text (here v n) r ∷ z) (split_lines v (n + 1) rs f.2)

more_lines : (v : Bool) (n : ℕ) (x : List ℕ) (m : ℕ) (rs : List Line)
    → read_lines v n (x ∷ pieces v m rs) ≡ lines_by n (read_line (here v n) x) (read_lines v (n + 1) (pieces v m rs))
more_lines v n x m [] = refl
more_lines v n x m (r ∷ rs) = refl

lines_again : (v : Bool) (n : ℕ) (rs : List Line) → FitLines n rs → read_lines v n (pieces v n rs) ≡ Ok rs
lines_again v n [] f = refl
lines_again v n (r ∷ rs) f =
    more_lines v n (line_text (here v n) r) (n + 1) rs
    ∙ ap (λ o. lines_by n o (read_lines v (n + 1) (pieces v (n + 1) rs))) (line_again (here v n) r f.0 f.1)
    ∙ ap (put_before r) (lines_again v (n + 1) rs f.2)

by_pieces : (v : Bool) (n : ℕ) (rs : List Line)
    → read_by (Some v) (pieces v n rs) ≡ with_version v (read_lines v 1 (pieces v n rs))
by_pieces v n [] = refl
by_pieces v n (r ∷ rs) = refl

header_again : (either v : Bool) → IsRead either v → version_of either (header v) ≡ Some v
header_again either false a = refl
header_again true true a = refl
header_again false true a = absurd (false≢true a)

header_lacks : (v : Bool) → Lacks 10 (header v)
header_lacks false = lacks is_line_byte 10 (header false) refl refl
header_lacks true = lacks is_line_byte 10 (header true) refl refl

pub certificate_again : (either v : Bool) (rs : List Line) → IsRead either v → Writable rs
    → read_certificate either (certificate_text v rs) ≡ Ok (v, rs)
unfolding read_certificate
certificate_again either v rs a f =
    ap (read_pieces either) (split_first 10 (header v) (lines_text v 1 rs) (header_lacks v)
    ∙ ap (λ z. header v ∷ z) (split_lines v 1 rs f))
    ∙ ap (λ o. read_by o (pieces v 1 rs)) (header_again either v a)
    ∙ by_pieces v 1 rs
    ∙ ap (with_version v) (lines_again v 1 rs f)

-- ---- what is read is written so

put_ok : {P : Type 0} (r : Line) (o : Reading) (rs : List Line) → put_before r o ≡ Ok rs
    → ((qs : List Line) → o ≡ Ok qs → r ∷ qs ≡ rs → P) → P
put_ok r (Ok qs) rs e k = k qs refl cc
put_ok r (Err m) rs e k = absurd cc

lines_ok : {P : Type 0} (n : ℕ) (q : Option Line) (o : Reading) (rs : List Line) → lines_by n q o ≡ Ok rs
    → ((r : Line) (qs : List Line) → q ≡ Some r → o ≡ Ok qs → r ∷ qs ≡ rs → P) → P
lines_ok n None o rs e k = absurd cc
lines_ok n (Some r) o rs e k = put_ok r o rs e (λ qs i j. k r qs refl i j)

ending_ok : (n : ℕ) (x : List ℕ) (rs : List Line) (t : Bool) → is_nothing x ≡ t
    → cond {A = Reading} t (Ok []) (Err (n + 1)) ≡ Ok rs → (x ≡ []) × ([] ≡ rs)
ending_ok n x rs true i e = (nothing_left x i, cc)
ending_ok n x rs false i e = absurd cc

-- the numbers of so many lines from this one on are small
lines_back : (v : Bool) (n : ℕ) (xs : List (List ℕ)) (rs : List Line) → n + length xs < 2 ^ 64
    → read_lines v n xs ≡ Ok rs → (xs ≡ pieces v n rs) × FitLines n rs
lines_back v n [] rs s e = absurd cc
lines_back v n (x ∷ []) rs s e =
    let w = ending_ok n x rs (is_nothing x) refl e in
    subst (λ rs. (x ∷ [] ≡ pieces v n rs) × FitLines n rs) w.1 (ap (λ z. z ∷ []) w.0, tt)
lines_back v n (x ∷ y ∷ ys) rs s e =
    lines_ok n (read_line (here v n) x) (read_lines v (n + 1) (y ∷ ys)) rs e (λ r qs i j k.
    let a = line_back (here v n) x r (omega arith) i in
    let b = lines_back v (n + 1) (y ∷ ys) qs (omega arith) j in
    subst (λ rs. (x ∷ y ∷ ys ≡ pieces v n rs) × FitLines n rs) k
    (ap (λ z. z ∷ y ∷ ys) a.0 ∙ ap (λ z. line_text (here v n) r ∷ z) b.0, (omega arith, a.1, b.1)))

version_row : (x : List ℕ) (v w : Bool) (t : Bool) → bytes_eq x (header v) ≡ t → (o : Option Bool)
    → (o ≡ Some w → x ≡ header w) → cond t (Some v) o ≡ Some w → x ≡ header w
version_row x v w true i o f e = (bytes_eq-Decides x (header v)).0 i ∙ ap header (same_Some v w e)
version_row x v w false i o f e = f e

second_row : (either : Bool) (x : List ℕ) (w t : Bool) → bytes_eq x (header true) ≡ t
    → cond (either && t) (Some true) None ≡ Some w → x ≡ header w
second_row true x w true i e = (bytes_eq-Decides x (header true)).0 i ∙ ap header (same_Some true w e)
second_row true x w false i e = absurd (none-some w e)
second_row false x w t i e = absurd (none-some w e)

version_back : (either : Bool) (x : List ℕ) (w : Bool) → version_of either x ≡ Some w → x ≡ header w
version_back either x w e =
    version_row x false w _ refl _ (λ e. second_row either x w (bytes_eq x (header true)) refl e) e

ok_some : {A : Type 0} {E : Type 0} (x y : A) → ◌≡◌ {A = Result A E} (Ok x) (Ok y) → Some x ≡ Some y
ok_some x y e = ap result_ok e

with_version_ok : {P : Type 0} (v : Bool) (o : Reading) (w : Bool) (rs : List Line) → with_version v o ≡ Ok (w, rs)
    → (v ≡ w → o ≡ Ok rs → P) → P
with_version_ok v (Ok qs) w rs e k = let p = some_pair_parts v w qs rs (ok_some (v, qs) (w, rs) e) in k p.0 (ap Ok p.1)
with_version_ok v (Err m) w rs e k = absurd cc

by_back : (either : Bool) (o : Option Bool) (x : List ℕ) (xs : List (List ℕ)) (w : Bool) (rs : List Line)
    → version_of either x ≡ o → 1 + length xs < 2 ^ 64 → read_by o xs ≡ Ok (w, rs)
    → (x ∷ xs ≡ header w ∷ pieces w 1 rs) × Writable rs
by_back either None x xs w rs i s e = absurd cc
by_back either (Some v) x [] w rs i s e = absurd cc
by_back either (Some v) x (y ∷ ys) w rs i s e =
    with_version_ok v (read_lines v 1 (y ∷ ys)) w rs e (λ p q.
    let b = lines_back v 1 (y ∷ ys) rs s q in
    (cc (version_back either x v i, b.0, p), b.1))

joined_pieces : (v : Bool) (n : ℕ) (rs : List Line) (x : List ℕ)
    → join_with_byte 10 (x ∷ pieces v n rs) ≡ x ++ (10 ∷ lines_text v n rs)
joined_pieces v n [] x = refl
joined_pieces v n (r ∷ rs) x = ap (λ z. x ++ (10 ∷ z)) (joined_pieces v (n + 1) rs (line_text (here v n) r))

pieces_back : (either : Bool) (xs : List (List ℕ)) (w : Bool) (rs : List Line) → length xs < 2 ^ 64
    → read_pieces either xs ≡ Ok (w, rs) → (xs ≡ header w ∷ pieces w 1 rs) × Writable rs
pieces_back either [] w rs s e = absurd cc
pieces_back either (x ∷ xs) w rs s e = by_back either (version_of either x) x xs w rs refl (omega arith) e

pub certificate_back : (either : Bool) (text : List ℕ) (w : Bool) (rs : List Line) → length text < 2 ^ 63
    → read_certificate either text ≡ Ok (w, rs) → (text ≡ certificate_text w rs) × Writable rs
unfolding read_certificate
certificate_back either text w rs s e =
    let b = pieces_back either (split_at 10 text) w rs
    (omega (arith, length-slice_split (λ b. b == 10) text, count_by-le-length (λ b. b == 10) text)) e in
    (sym (joined_split 10 text) ∙ ap (join_with_byte 10) b.0 ∙ joined_pieces w 1 rs (header w), b.1)

-- ---- one text, one certificate

pub one_certificate : (v w : Bool) (rs qs : List Line) → Writable rs → Writable qs
    → certificate_text v rs ≡ certificate_text w qs → (v ≡ w) × (rs ≡ qs)
one_certificate v w rs qs f g e =
    let k =
    sym (certificate_again true v rs refl f) ∙ ap (read_certificate true) e ∙ certificate_again true w qs refl g in
    some_pair_parts v w rs qs (ok_some (v, rs) (w, qs) k)

-- ---- the first line outside the grammar

no_grammar : (v : Bool) (n : ℕ) (x : List ℕ) → IsSmall n → read_line (here v n) x ≡ None → InGrammar v n x → ⊥
no_grammar v n x s e g = none-some g.0 (sym e ∙ ap (read_line (here v n)) g.2 ∙ line_again (here v n) g.0 s g.1)

outside_by : (v : Bool) (n : ℕ) (x y : List ℕ) (ys : List (List ℕ)) (q : Option Line) (o : Reading) (k : ℕ)
    → read_line (here v n) x ≡ q → IsSmall n → (o ≡ Err k → FirstOutside v (n + 1) (y ∷ ys) k) → lines_by n q o ≡ Err k
    → FirstOutside v n (x ∷ y ∷ ys) k
outside_by v n x y ys None o k i s f e = let q : n + 1 ≡ k = cc in
    subst (FirstOutside v n (x ∷ y ∷ ys)) q (no_line (no_grammar v n x s i))
outside_by v n x y ys (Some r) (Ok rs) k i s f e = absurd cc
outside_by v n x y ys (Some r) (Err m) k i s f e =
    let w = line_back (here v n) x r s i in
    let q : ◌≡◌ {A = Reading} (Err m) (Err k) = cc in further (r, w.1, w.0) (f q)

end_outside : (v : Bool) (n k : ℕ) (x : List ℕ) → ending n x ≡ Err k → FirstOutside v n (x ∷ []) k
end_outside v n k [] e = absurd cc
end_outside v n k (b ∷ bs) e = let q : n + 1 ≡ k = cc in subst (FirstOutside v n ((b ∷ bs) ∷ [])) q not_ended

pub first_outside : (v : Bool) (n : ℕ) (x : List ℕ) (xs : List (List ℕ)) (k : ℕ) → n + length (x ∷ xs) < 2 ^ 64
    → read_lines v n (x ∷ xs) ≡ Err k → FirstOutside v n (x ∷ xs) k
first_outside v n x [] k s e = end_outside v n k x e
first_outside v n x (y ∷ ys) k s e =
    outside_by v n x y ys (read_line (here v n) x) (read_lines v (n + 1) (y ∷ ys)) k refl (omega arith)
    (first_outside v (n + 1) y ys k (omega arith)) e

with_version_err : {P : Type 0} (v : Bool) (o : Reading) (k : ℕ) → with_version v o ≡ Err k → (o ≡ Err k → P) → P
with_version_err v (Ok rs) k e f = absurd cc
with_version_err v (Err m) k e f = f cc

outside_behind : (o : Option Bool) (xs : List (List ℕ)) (k : ℕ) → 1 + length xs < 2 ^ 64 → read_by o xs ≡ Err k
    → OutsideBehind o xs k
outside_behind None xs k s e = cc
outside_behind (Some v) [] k s e = cc
outside_behind (Some v) (x ∷ xs) k s e =
    with_version_err v (read_lines v 1 (x ∷ xs)) k e (λ i. first_outside v 1 x xs k s i)

outside_pieces : (either : Bool) (xs : List (List ℕ)) (k : ℕ) → length xs < 2 ^ 64 → read_pieces either xs ≡ Err k
    → OutsidePieces either xs k
outside_pieces either [] k s e = cc
outside_pieces either (x ∷ xs) k s e = outside_behind (version_of either x) xs k (omega arith) e

pub certificate_outside : (either : Bool) (text : List ℕ) (k : ℕ) → length text < 2 ^ 63
    → read_certificate either text ≡ Err k → IsFirstOutside either text k
unfolding read_certificate
certificate_outside either text k s e =
    outside_pieces either (split_at 10 text) k
    (omega (arith, length-slice_split (λ b. b == 10) text, count_by-le-length (λ b. b == 10) text)) e

-- a text that is refused is the text of no writable certificate
pub refused_text : (either : Bool) (text : List ℕ) (k : ℕ) (v : Bool) (rs : List Line)
    → read_certificate either text ≡ Err k → IsRead either v → IsTextOf text v rs → ⊥
refused_text either text k v rs e a f =
    let w = sym e ∙ ap (read_certificate either) f.0 ∙ certificate_again either v rs a f.1 in
    absurd cc
