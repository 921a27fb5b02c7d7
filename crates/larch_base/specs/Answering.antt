-- What a call answers, by what a definition answers.
use Rattle.std.specs.Prelude.{◌≡◌, Option, IfSome, Result, Ok, Err}

-- A definition answers a value or a fault. A call answers that value, or a refusal that tells that fault; a refusal
-- that tells none is out of memory, of which nothing is said.
abbrev pub Answers : {Value Refusal Fault : Type 0} → (Refusal → Option Fault) → Result Value Refusal
    → Result Value Fault → Type 0
Answers told (Ok value) answer = answer ≡ Ok value
Answers told (Err refusal) answer = IfSome (told refusal) (λ fault. answer ≡ Err fault)
