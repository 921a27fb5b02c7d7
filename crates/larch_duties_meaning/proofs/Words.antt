-- Each sort and each variable in a duty is a word, where files are written with words.
use Rattle.std.proofs.Common.{◌≡◌, ℕ, suc, not, List, [], ◌∷◌, ◌++◌, map, All, Ok, subst}
use Rattle.std.specs.Prelude.{codes, decimal, filter, is_some, None}
use Rattle.std.proofs.lemmas.List.Elements.{All-nil, All-append, All-contains, All-map, All-push, All-weaker}
use Rattle.larch_base.specs.declared.code.Code.TheVariants.{Exempt}
use Rattle.larch_base.proofs.Lists.{all_from}
use Rattle.larch_raw.specs.Worded.{WordedConversion, WordedItem, WordedTrait, WordedVar}
use Rattle.larch_raw.specs.declared.equation.RawConversion.{RawConversion}
use Rattle.larch_raw.specs.declared.equation.RawEquation.{RawEquation}
use Rattle.larch_calculus.specs.RenamingRenaming.{Renaming, rename_tree, renamed_statement}
use Rattle.larch_term.specs.Operator.{PlainOperator}
use Rattle.larch_term.specs.Tree.{Tree, forest_of, var}
use Rattle.larch_term.specs.Variable.{occurrences, occurrences_in}
use Rattle.larch_term.specs.declared.statement.Statement.{Statement}
use Rattle.larch_term.specs.declared.statement.Statement.TheVariants.{Equation}
use Rattle.larch_term.specs.declared.statement.Theory.{Theory}
use Rattle.larch_flat_meaning.specs.SortsMeaningLaws.{OperatorSorts, StatementSorts}
use Rattle.larch_flat_meaning.specs.SortsMeaningRead.{read_term}
use Rattle.larch_flat_meaning.specs.SortsMeaningScope.{Variables}
use Rattle.larch_flat_meaning.proofs.SortsMeaningReadAnswers.{term_ok}
use Rattle.larch_flat_meaning.proofs.SortsMeaningSorted.{in_scope}
use Rattle.larch_flat_meaning.proofs.SortsMeaningSortsRead.{statement_names}
use Rattle.larch_base_meaning.specs.Word.{IsWord}
use Rattle.larch_flat_meaning.specs.TraitsItemsLaws.{BindsWords}
use Rattle.larch_base_meaning.specs.Steps.{after, all_taken}
use Rattle.larch_flat_meaning.specs.TraitsItemsVariables.{variables_declared}
use Rattle.larch_flat_meaning.proofs.TraitsItemsKept.{Any, after_was, all_any, kept, ok_inj}
use Rattle.larch_flat_meaning.proofs.TraitsItemsStated.{items_bind, scope_words}
use Rattle.larch_flat_meaning.specs.Files.{Files}
use Rattle.larch_flat_meaning.specs.Flat.{FlatTrait, flat, theory_of}
use Rattle.larch_flat_meaning.specs.Laws.{AreWorded, IsStatedOver}
use Rattle.larch_flat_meaning.specs.Replacements.{renaming}
use Rattle.larch_flat_meaning.specs.Stops.{refused_if, surely}
use Rattle.larch_flat_meaning.proofs.Gathering.{surely_was}
use Rattle.larch_flat_meaning.proofs.Proper.{refused_if_was}
use Rattle.larch_flat_meaning.proofs.Texts.{flat_text}
use Rattle.larch_flat_meaning.proofs.Theory.{all_left}
use Rattle.larch_flat_meaning.proofs.Variables.{Binds, Named, Says, both_hold, flat_says, item_words, of_number}
use Rattle.larch_flat_meaning.proofs.Variables.{renamed_binds, renamed_marks, renamed_says, variables_words}
use Rattle.larch_flat_meaning.proofs.Words.{operators_words, stated_words}
use Rattle.larch_duties_meaning.specs.Conversions.{Conversion, Copied, by_copies, bytes_of, clause_over, clause_theory}
use Rattle.larch_duties_meaning.specs.Conversions.{copies}
use Rattle.larch_duties_meaning.specs.Conversions.{conversion_of, copy_of, has_one_of, names_one_of, take_converted}
use Rattle.larch_duties_meaning.specs.Conversions.{take_exempted}
use Rattle.larch_duties_meaning.specs.Duties.{Duties, Duty, all_duties, arguments, duties, is_its_copy, with_clauses}
use Rattle.larch_duties_meaning.specs.Implied.{implied_statements}
use Rattle.larch_duties_meaning.specs.Laws.{IsDutyInWords, IsSoundDuty}
use Rattle.larch_duties_meaning.proofs.Conversions.{IsConversionOf, conversion_is}
use Rattle.larch_duties_meaning.proofs.Copies.{IsCopyFrom, copies_from}
use Rattle.larch_duties_meaning.proofs.Each.{Has, HasClause, duties_have}
use Rattle.larch_duties_meaning.proofs.Implied.{each_implied, implied_are}
use Rattle.larch_duties_meaning.proofs.Sound.{duties_sound}

-- each sort of the operator is a word
abbrev HasWordSorts : PlainOperator → Type 0
HasWordSorts f = OperatorSorts IsWord f

-- the variables of exempted terms are words
module _ (own : List PlainOperator) where
  one_binds : (fs : List PlainOperator) (vs : Variables) → All (λ v. IsWord v.0) vs
      → (raw : RawEquation) (ts us : List Tree)
      → take_exempted own fs vs raw ts ≡ Ok us → All Binds ts → All Binds us
  one_binds fs vs w raw ts us e a =
      let z = refused_if_was Exempt raw.first (is_some raw.right)
      (after (read_term own vs None raw)
      (λ t. refused_if Exempt raw.first (not (has_one_of fs t)) (Ok (ts ++ t ∷ [])))) us e in
      let p = after_was (read_term own vs None raw)
      (λ t. refused_if Exempt raw.first (not (has_one_of fs t)) (Ok (ts ++ t ∷ []))) us z.1 in
      let r = refused_if_was Exempt raw.first (not (has_one_of fs p.0)) (Ok (ts ++ p.0 ∷ [])) us p.2 in
      let reads = (term_ok own vs None raw p.0 p.1).1.0 in
      let scope = in_scope own vs raw.left p.0 reads.0 in
      subst (All Binds) (ok_inj r.1)
      (All-push Binds ts p.0 a (statement_names IsWord vs (Equation p.0 p.0) w (scope, scope)).0)

  exempted_bind : (raw : RawConversion) (c : Conversion) → WordedConversion raw → conversion_of own raw ≡ Ok c
      → All Binds c.exempted
  exempted_bind raw c w e =
      let p = after_was (all_taken (take_converted own) raw.converted [])
      (λ fs. after (variables_declared own raw.variables)
      (λ vs. after (all_taken (take_exempted own fs vs) raw.exempted [])
      (λ ts. Ok (record { converted = fs; exempted = ts })))) c e in
      let q = after_was (variables_declared own raw.variables)
      (λ vs. after (all_taken (take_exempted own p.0 vs) raw.exempted [])
      (λ ts. Ok (record { converted = p.0; exempted = ts }))) c p.2 in
      let r = after_was (all_taken (take_exempted own p.0 q.0) raw.exempted [])
      (λ ts. Ok (record { converted = p.0; exempted = ts })) c q.2 in
      let words : All (λ v. IsWord v.0) q.0 = scope_words own raw.variables q.0 q.1
      (All-weaker WordedVar (λ v. IsWord v.name.name) (λ v k. k.0) raw.variables w.1) in
      let made : Conversion = record { converted = p.0; exempted = r.0 } in
      subst (λ x. All Binds x.exempted) (ok_inj {x = made} r.2)
      (kept (take_exempted own p.0 q.0) Any (All Binds) (λ x b d _ s a. one_binds p.0 q.0 words x b d s a) raw.exempted
      [] r.0 (all_any raw.exempted) r.1 (All-nil Binds))

arguments_bind : (n : ℕ) (ss : List (List ℕ)) → All Named (occurrences_in (forest_of (arguments n ss)))
arguments_bind n [] = All-nil Named
arguments_bind n (s ∷ ss) =
    All-append Named (occurrences (var (codes "x" ++ decimal n) s)) (occurrences_in (forest_of (arguments (suc n) ss)))
    (of_number n s) (arguments_bind (suc n) ss)

copy_says : (c : Copied) → Says (is_its_copy c)
copy_says c = (arguments_bind 1 c.operator.domain, arguments_bind 1 (copy_of c).domain)

-- the sorts of a theory's operators are words, and the variables in it and in what is claimed over it
abbrev SaysOver : Theory → Statement → Type 0
SaysOver t s = All HasWordSorts t.operators × All Says t.statements × Says s

module _ (t : Theory) (words : All HasWordSorts t.operators) (says : All Says t.statements) (c : Conversion)
    (is : IsConversionOf t.operators c) (binds : All Binds c.exempted) where
  abbrev cs : List Copied
  cs = copies 1 (map (λ f. bytes_of f.name) t.operators) c.converted

  abbrev by : Renaming
  by = renaming (by_copies cs)

  copy_words : All HasWordSorts (t.operators ++ map copy_of cs)
  copy_words =
      All-append HasWordSorts t.operators (map copy_of cs) words
      (All-map HasWordSorts copy_of cs
      (All-weaker (IsCopyFrom t.operators) (λ d. HasWordSorts (copy_of d))
      (λ d k. All-contains HasWordSorts t.operators d.operator words k) cs
      (copies_from t.operators 1 (map (λ f. bytes_of f.name) t.operators) c.converted is.0)))

  copied_say : All Says (t.statements ++ ((clause_over t c).copied ++ (clause_over t c).exempt))
  copied_say =
      All-append Says t.statements ((clause_over t c).copied ++ (clause_over t c).exempt) says
      (All-append Says (clause_over t c).copied (clause_over t c).exempt
      (All-map Says (renamed_statement by) (filter (names_one_of c.converted) t.statements)
      (All-weaker Says (λ s. Says (renamed_statement by s)) (renamed_says by)
      (filter (names_one_of c.converted) t.statements)
      (all_left Says (names_one_of c.converted) t.statements says)))
      (All-map Says (λ u. Equation u (rename_tree by u)) c.exempted
      (All-weaker Binds (λ u. Says (Equation u (rename_tree by u))) (λ u k. (k, renamed_binds by u k)) c.exempted
      binds)))

  clause_says : HasClause SaysOver t (clause_over t c)
  clause_says =
      All-map (SaysOver (clause_theory t (clause_over t c))) is_its_copy cs
      (all_from (λ d. SaysOver (clause_theory t (clause_over t c)) (is_its_copy d)) cs
      (λ d _. (copy_words, copied_say, copy_says d)))

-- the sorts of the operators of duties, and their variables
duties_say : (files : Files) → AreWorded files → (limit : ℕ) (name : List ℕ) (own : FlatTrait) (d : Duties)
    → flat limit files name ≡ Ok own → duties limit files own ≡ Ok d → All (Has SaysOver) (all_duties d)
unfolding duties
duties_say files w limit name own d f e =
    let written : WordedTrait own.raw = w name own.raw (flat_text limit files name own f) in
    let words : All HasWordSorts own.operators = operators_words files w limit name own f in
    let says : All Says (theory_of own).statements = variables_words files w limit name own f in
    let over : (s : Statement) → Says s → SaysOver (theory_of own) s = (λ s h. (words, says, h)) in
    let p = after_was (implied_statements limit files own) (λ ss. surely (with_clauses own ss)) d e in
    let implied : All Says p.0 = each_implied own Says limit files
    (λ ref other by ss g r s. implied_are Says own other ref.name.pos by ss
    (renamed_marks by other.marked (flat_says files w limit ref.name.name other g).0) s)
    (λ ss s. items_bind own.operators own.raw.implied_items ss
    (All-weaker WordedItem BindsWords item_words own.raw.implied_items written.7) s) p.0 p.1 in
    duties_have SaysOver own WordedConversion written.8
    (All-weaker Says (SaysOver (theory_of own)) over own.discharge (flat_says files w limit name own f).1)
    (λ raw c v s. clause_says (theory_of own) words says c (conversion_is own.operators raw c s)
    (exempted_bind own.operators raw c v s)) p.0 d
    (All-weaker Says (SaysOver (theory_of own)) over p.0 implied) (surely_was (with_clauses own p.0) d p.2)

in_words : (d : Duty) → IsSoundDuty d → Has SaysOver d → IsDutyInWords d
in_words d sound h = (
  (
    h.0,
    both_hold (StatementSorts IsWord) Says d.theory.statements
        (All-weaker (IsStatedOver d.theory.operators) (StatementSorts IsWord) (stated_words d.theory.operators h.0)
        d.theory.statements sound.0.1)
        h.1,
  ),
  (stated_words d.theory.operators h.0 d.statement sound.1, h.2),
)

-- each sort and each variable in a duty is a word
pub duties_words : (files : Files) → AreWorded files → (limit : ℕ) (name : List ℕ) (own : FlatTrait) (d : Duties)
    → flat limit files name ≡ Ok own
    → duties limit files own ≡ Ok d → All IsDutyInWords (all_duties d)
duties_words files w limit name own d f e =
    let sound : All IsSoundDuty (all_duties d) = duties_sound files w limit name own d f e in
    let says : All (Has SaysOver) (all_duties d) = duties_say files w limit name own d f e in
    all_from IsDutyInWords (all_duties d)
    (λ x c. in_words x (All-contains IsSoundDuty (all_duties d) x sound c)
    (All-contains (Has SaysOver) (all_duties d) x says c))
