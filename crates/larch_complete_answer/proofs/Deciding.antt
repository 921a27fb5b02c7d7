-- What is told to be complete are rules that decide.
use Rattle.std.proofs.Common.{◌≡◌, refl, ap, ℕ, true}
use Rattle.std.specs.Prelude.{All}
use Rattle.larch_complete_answer.specs.Told.{TellsRules, completion_told, ending_text, is_complete}
use Rattle.larch_complete_meaning.specs.Completion.{Decides, IsDerivable, complete, equations_of}
use Rattle.larch_complete_meaning.specs.declared.answer.CompletionAnswer.{CompletionAnswer}
use Rattle.larch_complete_meaning.specs.declared.answer.CompletionAnswer.TheVariants as answer_
use Rattle.larch_term.specs.declared.statement.Theory.{Theory}

complete_is : (answer : CompletionAnswer) → is_complete answer ≡ true → answer ≡ answer_.Complete
complete_is answer_.Complete is = refl
complete_is (answer_.Unoriented s) is = absurd (cc)
complete_is answer_.Limit is = absurd (cc)
complete_is answer_.TooLarge is = absurd (cc)
complete_is answer_.Spent is = absurd (cc)

pub decided : (theory : Theory) (limit : ℕ)
    → ((complete theory limit).answer ≡ answer_.Complete
    → Decides (complete theory limit).rules limit (equations_of theory))
    → All (IsDerivable theory) (complete theory limit).rules → (completion_told theory limit).complete ≡ true
    → TellsRules theory limit (completion_told theory limit).text
decided theory limit decide derivable told =
    let is = complete_is (complete theory limit).answer told in
    record {
      rules = (complete theory limit).rules;
      tells = ap (λ answer. ending_text answer (complete theory limit).rules) is;
      derivable = derivable;
      decides = decide is;
    }
