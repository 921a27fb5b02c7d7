-- The lines of a text are taken one by one.
use Rattle.std.proofs.Common.{◌≡◌, ℕ, ◌+◌, ◌<◌, cond, Bool, true, false, List, [], ◌∷◌, ◌++◌, length, Option, Some}
use Rattle.std.proofs.Common.{None, ◌&&◌, Result, Ok, Err, refl, sym, ◌∙◌, ap, arith, append_assoc, subst}
use Rattle.larch_certificate.specs.declared.line.Line.{Line}
use Rattle.larch_certificate_text.specs.CertificateText.{here, Reading, put_before, lines_by, ending, read_lines}
use Rattle.larch_certificate_text.specs.CertificateText.{version_of, Versioned, with_version, read_by, read_pieces}
use Rattle.larch_certificate_text.specs.CertificateText.{read_certificate, header, IsTextOf}
use Rattle.larch_certificate_text.specs.ListText.{split_at}
use Rattle.larch_certificate_text.specs.Parts.{cut_at}
use Rattle.larch_certificate_reader.specs.JoinedLines.{join_lines}
use Rattle.larch_certificate_reader.specs.Refusals.{IfForm}
use Rattle.larch_certificate_text.specs.LineText.{read_line}
use Rattle.larch_certificate_reader.specs.declared.certificate.FormRefusal.{FormRefusal}
use Rattle.larch_certificate_reader.specs.declared.certificate.FormRefusal.TheVariants.{Form, Memory}
use Rattle.std.specs.Prelude.{bytes_eq, IfErr, ◌^◌}
use Rattle.larch_certificate_reader.specs.declared.certificate.Versioned as read
use Rattle.larch_certificate_text.proofs.CertificateLaws.{certificate_back, refused_text}
use Rattle.std.specs.Result.{result_ok}
use Rattle.std.proofs.lemmas.Option.{none-some, same_Some, some_pair_parts}
use Rattle.larch_certificate_reader.proofs.Fields.{split_some}
use Rattle.larch_certificate_reader.proofs.ListSteps.{split_cut, split_uncut}

by_more : (v : Bool) (xs : List (List ℕ)) → 0 < length xs → read_by (Some v) xs ≡ with_version v (read_lines v 1 xs)
by_more v [] l = absurd (omega (arith, l))
by_more v (x ∷ xs) l = refl

pub header_cut : (either : Bool) (text x y : List ℕ) (v : Bool) → Some (x, y) ≡ cut_at 10 text
    → Some v ≡ version_of either x
    → read_pieces either (split_at 10 text) ≡ with_version v (read_lines v 1 (split_at 10 y))
header_cut either text x y v e i =
    ap (read_pieces either) (split_cut 10 text x y (sym e)) ∙ ap (λ o. read_by o (split_at 10 y)) (sym i)
    ∙ by_more v (split_at 10 y) (split_some 10 y)

pub header_bad : (either : Bool) (text x y : List ℕ) → Some (x, y) ≡ cut_at 10 text → None ≡ version_of either x
    → read_pieces either (split_at 10 text) ≡ Err 1
header_bad either text x y e i =
    ap (read_pieces either) (split_cut 10 text x y (sym e)) ∙ ap (λ o. read_by o (split_at 10 y)) (sym i)

by_nothing : (o : Option Bool) → read_by o [] ≡ Err 1
by_nothing None = refl
by_nothing (Some v) = refl

pub header_uncut : (either : Bool) (text : List ℕ) → None ≡ cut_at 10 text
    → read_pieces either (split_at 10 text) ≡ Err 1
header_uncut either text e = ap (read_pieces either) (split_uncut 10 text (sym e)) ∙ by_nothing (version_of either text)

pub joined_none : (o : Reading) → join_lines [] o ≡ o
joined_none (Ok ys) = refl
joined_none (Err k) = refl

joined_err : (xs : List Line) (o : Reading) (k : ℕ) → join_lines xs o ≡ Err k → o ≡ Err k
joined_err xs (Ok ys) k e = absurd cc
joined_err xs (Err n) k e = e

-- what is wrong behind other lines is wrong without them
pub form_joined : (refusal : FormRefusal) (xs : List Line) (o : Reading) → IfForm refusal (λ n. join_lines xs o ≡ Err n)
    → IfForm refusal (λ n. o ≡ Err n)
form_joined (Form n) xs o e = joined_err xs o n e
form_joined Memory xs o e = tt

lines_more : (v : Bool) (n : ℕ) (x : List ℕ) (ys : List (List ℕ)) → 0 < length ys
    → read_lines v n (x ∷ ys) ≡ lines_by n (read_line (here v n) x) (read_lines v (n + 1) ys)
lines_more v n x [] l = absurd (omega (arith, l))
lines_more v n x (y ∷ ys) l = refl

lines_cut : (v : Bool) (n : ℕ) (rest x y : List ℕ) → Some (x, y) ≡ cut_at 10 rest
    → read_lines v n (split_at 10 rest) ≡ lines_by n (read_line (here v n) x) (read_lines v (n + 1) (split_at 10 y))
lines_cut v n rest x y e =
    ap (read_lines v n) (split_cut 10 rest x y (sym e)) ∙ lines_more v n x (split_at 10 y) (split_some 10 y)

joined_more : (xs : List Line) (r : Line) (o : Reading) → join_lines (xs ++ (r ∷ [])) o ≡ join_lines xs (put_before r o)
joined_more xs r (Ok ys) = ap Ok (append_assoc xs (r ∷ []) ys)
joined_more xs r (Err k) = refl

pub line_step : (v : Bool) (n : ℕ) (xs : List Line) (rest x y : List ℕ) (r : Line) → Some (x, y) ≡ cut_at 10 rest
    → Some r ≡ read_line (here v n) x
    → join_lines (xs ++ (r ∷ [])) (read_lines v (n + 1) (split_at 10 y))
    ≡ join_lines xs (read_lines v n (split_at 10 rest))
line_step v n xs rest x y r e i =
    joined_more xs r (read_lines v (n + 1) (split_at 10 y))
    ∙ ap (λ o. join_lines xs (lines_by n o (read_lines v (n + 1) (split_at 10 y)))) i
    ∙ ap (join_lines xs) (sym (lines_cut v n rest x y e))

pub line_bad : (v : Bool) (n : ℕ) (xs : List Line) (rest x y : List ℕ) → Some (x, y) ≡ cut_at 10 rest
    → None ≡ read_line (here v n) x → join_lines xs (read_lines v n (split_at 10 rest)) ≡ Err (n + 1)
line_bad v n xs rest x y e i =
    ap (join_lines xs) (lines_cut v n rest x y e)
    ∙ ap (λ o. join_lines xs (lines_by n o (read_lines v (n + 1) (split_at 10 y)))) (sym i)

pub lines_end : (v : Bool) (n : ℕ) (xs : List Line) (rest : List ℕ) → None ≡ cut_at 10 rest
    → join_lines xs (read_lines v n (split_at 10 rest)) ≡ join_lines xs (ending n rest)
lines_end v n xs rest e = ap (λ z. join_lines xs (read_lines v n z)) (split_uncut 10 rest (sym e))

-- what is wrong with the lines is wrong with the certificate
pub form_kept : (refusal : FormRefusal) (v : Bool) (o : Reading) (w : Versioned) → IfForm refusal (λ n. o ≡ Err n)
    → w ≡ with_version v o → IfForm refusal (λ n. w ≡ Err n)
form_kept (Form n) v o w f e = e ∙ ap (with_version v) f
form_kept Memory v o w f e = tt

first_by : (x : List ℕ) (w t u : Bool)
    → cond {A = Option Bool} t (Some false) (cond (false && u) (Some true) None) ≡ Some w → w ≡ false
first_by x w true u e = sym (same_Some false w e)
first_by x w false u e = absurd (none-some w e)

first_pieces : (o : Option Bool) (xs : List (List ℕ)) (w : Bool) (rs : List Line) → read_by o xs ≡ Ok (w, rs)
    → o ≡ Some w
first_pieces None xs w rs e = absurd cc
first_pieces (Some v) [] w rs e = absurd cc
first_pieces (Some v) (x ∷ xs) w rs e = first_version_of v w (read_lines v 1 (x ∷ xs)) rs e
  where
    first_version_of : (v w : Bool) (o : Reading) (rs : List Line) → with_version v o ≡ Ok (w, rs) → Some v ≡ Some w
    first_version_of v w (Ok qs) rs e = ap Some (some_pair_parts v w qs rs (ap result_ok e)).0
    first_version_of v w (Err k) rs e = absurd cc

first_of : (xs : List (List ℕ)) (w : Bool) (rs : List Line) → read_pieces false xs ≡ Ok (w, rs) → w ≡ false
first_of [] w rs e = absurd cc
first_of (x ∷ xs) w rs e =
    first_by x w (bytes_eq x (header false)) (bytes_eq x (header true)) (first_pieces (version_of false x) xs w rs e)

-- where only the first version is read, what is read has it
pub first_version : (text : List ℕ) (w : Bool) (rs : List Line) → read_certificate false text ≡ Ok (w, rs) → w ≡ false
unfolding read_certificate
first_version text w rs e = first_of (split_at 10 text) w rs e

pub first_text : (text : List ℕ) (w : Bool) (rs : List Line) → length text < 2 ^ 63
    → read_certificate false text ≡ Ok (w, rs) → IsTextOf text false rs
first_text text w rs s e =
    subst (λ v. IsTextOf text v rs) (first_version text w rs e) (certificate_back false text w rs s e)

-- what is read of the first version alone has it
pub first_read : (text : List ℕ) (w : Bool) (rs : List Line) → read_certificate false text ≡ Ok (w, rs)
    → read_certificate false text ≡ Ok (false, rs)
first_read text w rs e =
    subst (λ v. read_certificate false text ≡ Ok (v, rs)) (first_version text w rs e) e

-- what is refused is the text of no writable certificate
pub none_first : (refusal : FormRefusal) (text : List ℕ) → IfForm refusal (λ n. read_certificate false text ≡ Err n)
    → IfForm refusal (λ n. (c : List Line) → IsTextOf text false c → ⊥)
none_first (Form n) text e = λ c f. refused_text false text n false c e refl f
none_first Memory text e = tt

none_either : (refusal : FormRefusal) (text : List ℕ) → IfForm refusal (λ n. read_certificate true text ≡ Err n)
    → IfForm refusal (λ n. (v : Bool) (c : List Line) → IsTextOf text v c → ⊥)
none_either (Form n) text e = λ v c f. refused_text true text n v c e refl f
none_either Memory text e = tt

pub none_read : (r : Result read.Versioned FormRefusal) (text : List ℕ)
    → IfErr r (λ refusal. IfForm refusal (λ n. read_certificate true text ≡ Err n))
    → IfErr r (λ refusal. IfForm refusal (λ n. (v : Bool) (c : List Line) → IsTextOf text v c → ⊥))
none_read (Ok c) text e = tt
none_read (Err refusal) text e = none_either refusal text e
