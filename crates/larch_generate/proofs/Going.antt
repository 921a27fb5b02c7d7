-- Lists that go on by an item.
use Rattle.std.proofs.Common.{◌≡◌, refl, sym, ap, ◌∙◌, arith, ℕ, zero, suc, ◌+◌, ◌-◌, ◌*◌, ◌<◌, ◌≤◌, List, []}
use Rattle.std.proofs.Common.{◌∷◌, ◌++◌, codes, length}
use Rattle.std.proofs.lemmas.List.{append_assoc, append-nil, length-append}
use Rattle.larch_generate.specs.Generator.{closings, files_from, height_of, next_number, openings, script_file}
use Rattle.larch_generate.specs.Generator.{trait_file}
use Rattle.larch_generate.specs.declared.file.GeneratedFile.{GeneratedFile}

-- one s( more
pub openings_end : (n : ℕ) → openings n ++ codes "s(" ≡ openings (suc n)
openings_end zero = refl
openings_end (suc n) = ap (λ t. 115 ∷ 40 ∷ t) (openings_end n)

-- one ) more
pub closings_end : (n : ℕ) → closings n ++ codes ")" ≡ closings (suc n)
closings_end zero = refl
closings_end (suc n) = ap (λ t. 41 ∷ t) (closings_end n)

one_more : (n : ℕ) → n + 1 ≡ suc n
one_more n = omega arith

pub openings_more : (first text next : List ℕ) (n : ℕ) → text ≡ first ++ openings n → next ≡ text ++ codes "s("
    → next ≡ first ++ openings (n + 1)
openings_more first text next n e f =
    f ∙ ap (λ t. t ++ codes "s(") e ∙ append_assoc first (openings n) (codes "s(")
    ∙ ap (λ t. first ++ t) (openings_end n ∙ ap openings (sym (one_more n)))

pub closings_more : (first text next : List ℕ) (n : ℕ) → text ≡ first ++ closings n → next ≡ text ++ codes ")"
    → next ≡ first ++ closings (n + 1)
closings_more first text next n e f =
    f ∙ ap (λ t. t ++ codes ")") e ∙ append_assoc first (closings n) (codes ")")
    ∙ ap (λ t. first ++ t) (closings_end n ∙ ap closings (sym (one_more n)))

-- the files of a trait more
files_step : (place n x : ℕ) (files next whole : List GeneratedFile)
    → next ≡ files ++ trait_file place (height_of (next_number x)) ∷ script_file place ∷ []
    → files ++ files_from place (suc n) x ≡ whole
    → next ++ files_from (suc place) n (next_number x) ≡ whole
files_step place n x files next whole put e =
    let two = trait_file place (height_of (next_number x)) ∷ script_file place ∷ [] in
    let rest = files_from (suc place) n (next_number x) in
    ap (λ t. t ++ rest) put ∙ append_assoc files two rest ∙ e

behind : (n size place : ℕ) → place < size → n ≡ size - (place + 1) → size - place ≡ suc n
behind n size place lt e = omega (arith, lt, e)

pub files_more : (place size x : ℕ) (files next whole : List GeneratedFile) → place < size
    → next ≡ files ++ trait_file place (height_of (next_number x)) ∷ script_file place ∷ []
    → files ++ files_from place (size - place) x ≡ whole
    → next ++ files_from (place + 1) (size - (place + 1)) (next_number x) ≡ whole
files_more place size x files next whole lt put e =
    let n = size - (place + 1) in
    ap (λ p. next ++ files_from p n (next_number x)) (one_more place)
    ∙ files_step place n x files next whole put
    (ap (λ m. files ++ files_from place m x) (sym (behind n size place lt refl)) ∙ e)

none : (n size place : ℕ) → size ≤ place → size - place ≡ 0
none n size place le = omega (arith, le)

pub files_end : (place size x : ℕ) (files whole : List GeneratedFile) → size ≤ place
    → files ++ files_from place (size - place) x ≡ whole → files ≡ whole
files_end place size x files whole le e =
    sym (append-nil files) ∙ ap (λ m. files ++ files_from place m x) (sym (none 0 size place le)) ∙ e

pub count_more : (files next : List GeneratedFile) (a b : GeneratedFile) (place : ℕ) → next ≡ files ++ a ∷ b ∷ []
    → length files ≡ 2 * place → length next ≡ 2 * (place + 1)
count_more files next a b place put e =
    let all = ap length put ∙ length-append files (a ∷ b ∷ []) in omega (arith, all, e)
