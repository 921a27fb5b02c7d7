-- What reading answers, in the words of the grammar.
use Rattle.std.proofs.Common.{◌≡◌, ◌+◌, ℕ, IfSome, Result, Ok, Err, refl, sym, ap}
use Rattle.larch_base.specs.Answering.{Answers}
use Rattle.larch_base.specs.declared.position.Pos.{Pos}
use Rattle.larch_lexer.specs.TokenList.{TokenList}
use Rattle.larch_grammar_law.specs.declared.mark.Flaw.{Flaw}
use Rattle.larch_grammar_law.specs.declared.mark.Flaw.TheVariants as flaw
use Rattle.larch_raw.specs.declared.declared.RawOpRef.{RawOpRef}
use Rattle.larch_raw.specs.declared.equation.RawEquation.{RawEquation}
use Rattle.larch_raw.specs.declared.equation.RawTrait.{RawTrait}
use Rattle.larch_grammar.specs.Answers.{MeansTrait, reference_answer, term_answer, trait_answer}
use Rattle.larch_grammar.proofs.Law.{reference_law, term_law, trait_law}
use Rattle.larch_syntax.specs.Read.{MeansFrom, MeansReference, ClaimHolds, from_there, reference_of, term_of, trait_of}
use Rattle.larch_syntax.specs.Read.{with_fault}
use Rattle.larch_syntax.specs.Refusal.{code_of, fault_of, flaw_told, cause}
use Rattle.larch_syntax.specs.declared.refusal.SyntaxRefusal.{SyntaxRefusal}
use Rattle.larch_syntax.specs.declared.refusal.SyntaxRefusal.TheVariants.{Syntax, Mixed, Deep, Large, Memory}

-- flaws have different codes
one_flaw : (f g : Flaw) → code_of f ≡ code_of g → f ≡ g
one_flaw flaw.Mixed flaw.Mixed e = refl
one_flaw flaw.Mixed flaw.Syntax e = cc
one_flaw flaw.Mixed flaw.Deep e = cc
one_flaw flaw.Mixed flaw.Large e = cc
one_flaw flaw.Syntax flaw.Mixed e = cc
one_flaw flaw.Syntax flaw.Syntax e = refl
one_flaw flaw.Syntax flaw.Deep e = cc
one_flaw flaw.Syntax flaw.Large e = cc
one_flaw flaw.Deep flaw.Mixed e = cc
one_flaw flaw.Deep flaw.Syntax e = cc
one_flaw flaw.Deep flaw.Deep e = refl
one_flaw flaw.Deep flaw.Large e = cc
one_flaw flaw.Large flaw.Mixed e = cc
one_flaw flaw.Large flaw.Syntax e = cc
one_flaw flaw.Large flaw.Deep e = cc
one_flaw flaw.Large flaw.Large e = refl

one_found : (f g : Flaw × Pos) → fault_of f ≡ fault_of g → f ≡ g
one_found f g e = let a = one_flaw f.0 g.0 (ap (λ x. x.code) e) in let b : f.1 ≡ g.1 = ap (λ x. x.pos) e in
    λ i. (a i, b i)

pub ok_back : {V : Type 0} (a : Result V (Flaw × Pos)) (v : V) → with_fault a ≡ Ok v → a ≡ Ok v
ok_back (Ok x) v e = let q : x ≡ v = cc in ap Ok q
ok_back (Err f) v e = let n : ⊥ = cc in absurd n

pub err_back : {V : Type 0} (a : Result V (Flaw × Pos)) (f : Flaw × Pos) → with_fault a ≡ Err (fault_of f) → a ≡ Err f
err_back (Ok x) f e = let n : ⊥ = cc in absurd n
err_back (Err g) f e = let q : fault_of g ≡ fault_of f = cc in ap Err (one_found g f q)

-- what is claimed of the answer is said of what a refusal tells of it
said : {V : Type 0} (a : Result V (Flaw × Pos)) (r : SyntaxRefusal) (C : Flaw × Pos → Type 0)
    → ((f : Flaw × Pos) → a ≡ Err f → C f)
    → IfSome (cause r) (λ fault. with_fault a ≡ Err fault) → IfSome (flaw_told r) C
said a (Syntax pos) C k e = k _ (err_back a (flaw.Syntax, pos) e)
said a (Mixed pos) C k e = k _ (err_back a (flaw.Mixed, pos) e)
said a (Deep pos) C k e = k _ (err_back a (flaw.Deep, pos) e)
said a (Large pos) C k e = k _ (err_back a (flaw.Large, pos) e)
said a Memory C k e = tt

pub trait_said : (tokens : TokenList) (r : Result RawTrait SyntaxRefusal) → Answers cause r (trait_of tokens)
    → ClaimHolds (MeansTrait tokens) r
trait_said tokens (Ok raw) e = trait_law tokens (Ok raw) (ok_back (trait_answer tokens) raw e)
trait_said tokens (Err refusal) e =
    said (trait_answer tokens) refusal (λ f. MeansTrait tokens (Err f)) (λ f q. trait_law tokens (Err f) q) e

-- the number of the token behind a tree is that of its tokens
there_back : {T : Type 0} (from : ℕ) (a : Result (T × ℕ) (Flaw × Pos)) (read : T × ℕ)
    → from_there from (with_fault a) ≡ Ok read
    → (n : ℕ) × (a ≡ Ok (read.0, n)) × (read.1 ≡ from + n)
there_back from (Ok x) read e = let q : (x.0, from + x.1) ≡ read = cc in
    (x.1, ap (λ y. Ok (y.0, x.1)) q, sym (ap (λ y. y.1) q))
there_back from (Err f) read e = let n : ⊥ = cc in absurd n

from_back : {T : Type 0} (from : ℕ) (a : Result (T × ℕ) (Flaw × Pos)) (f : Flaw × Pos)
    → from_there from (with_fault a) ≡ Err (fault_of f) → a ≡ Err f
from_back from (Ok x) f e = let n : ⊥ = cc in absurd n
from_back from (Err g) f e = let q : fault_of g ≡ fault_of f = cc in ap Err (one_found g f q)

front_read : (tokens : TokenList) (from : ℕ) (read : RawEquation × ℕ) → term_of tokens from ≡ Ok read
    → MeansFrom tokens from (Ok read)
front_read tokens from read e =
    let b = there_back from (term_answer tokens from) read e in
    (b.0, (term_law tokens from (Ok (read.0, b.0))).0 b.1, b.2)

front_flaw : (tokens : TokenList) (from : ℕ) (f : Flaw × Pos) → term_of tokens from ≡ Err (fault_of f)
    → MeansFrom tokens from (Err f)
front_flaw tokens from f e = (term_law tokens from (Err f)).0 (from_back from (term_answer tokens from) f e)

pub front_said : (tokens : TokenList) (from : ℕ) (r : Result (RawEquation × ℕ) SyntaxRefusal)
    → Answers cause r (term_of tokens from)
    → ClaimHolds (MeansFrom tokens from) r
front_said tokens from (Ok read) e = front_read tokens from read e
front_said tokens from (Err (Syntax pos)) e = front_flaw tokens from (flaw.Syntax, pos) e
front_said tokens from (Err (Mixed pos)) e = front_flaw tokens from (flaw.Mixed, pos) e
front_said tokens from (Err (Deep pos)) e = front_flaw tokens from (flaw.Deep, pos) e
front_said tokens from (Err (Large pos)) e = front_flaw tokens from (flaw.Large, pos) e
front_said tokens from (Err Memory) e = tt

reference_read : (tokens : TokenList) (from : ℕ) (read : RawOpRef × ℕ) → reference_of tokens from ≡ Ok read
    → MeansReference tokens from (Ok read)
reference_read tokens from read e =
    let b = there_back from (reference_answer tokens from) read e in
    (b.0, (reference_law tokens from (Ok (read.0, b.0))).0 b.1, b.2)

reference_flaw : (tokens : TokenList) (from : ℕ) (f : Flaw × Pos) → reference_of tokens from ≡ Err (fault_of f)
    → MeansReference tokens from (Err f)
reference_flaw tokens from f e =
    (reference_law tokens from (Err f)).0 (from_back from (reference_answer tokens from) f e)

pub reference_said : (tokens : TokenList) (from : ℕ) (r : Result (RawOpRef × ℕ) SyntaxRefusal)
    → Answers cause r (reference_of tokens from)
    → ClaimHolds (MeansReference tokens from) r
reference_said tokens from (Ok read) e = reference_read tokens from read e
reference_said tokens from (Err (Syntax pos)) e = reference_flaw tokens from (flaw.Syntax, pos) e
reference_said tokens from (Err (Mixed pos)) e = reference_flaw tokens from (flaw.Mixed, pos) e
reference_said tokens from (Err (Deep pos)) e = reference_flaw tokens from (flaw.Deep, pos) e
reference_said tokens from (Err (Large pos)) e = reference_flaw tokens from (flaw.Large, pos) e
reference_said tokens from (Err Memory) e = tt
