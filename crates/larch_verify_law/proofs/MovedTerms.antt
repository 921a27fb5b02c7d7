-- What symbols, terms, equations and replacements mean behind a move.
use Rattle.std.proofs.Common.{◌≡◌, ℕ, zero, suc, ◌-◌, List, [], ◌∷◌, map, length, get_or, bytes_eq}
use Rattle.std.proofs.Common.{Option, Some, option_map, option_and_then, refl, sym, ◌∙◌, ap}
use Rattle.std.specs.Cmp.Lexicographic.{pointwise}
use Rattle.std.proofs.lemmas.Option.{option_and_then_some, cond_some}
use Rattle.std.proofs.lemmas.List.{length-map}
use Rattle.larch_base.proofs.Options.{some_inj}
use Rattle.larch_base.specs.ByNumber.{numbered}
use Rattle.larch_term.proofs.Decided.{sorts_Decides}
use Rattle.larch_term.specs.BuiltIn.{built_in}
use Rattle.larch_term.specs.Operator.{PlainOperator}
use Rattle.larch_term.specs.Sorts.{sort_of, sorts_of}
use Rattle.larch_term.specs.Tree.{Tree, Forest, app, more}
use Rattle.larch_term.specs.declared.statement.Statement.{Statement}
use Rattle.larch_term.specs.declared.statement.Statement.TheVariants.{Equation}
use Rattle.larch_term.specs.declared.statement.Theory.{Theory}
use Rattle.larch_term.specs.declared.substitution.Entry.{Entry}
use Rattle.larch_verify_meaning.proofs.RenamingRenamed.{renamed_sort, renamed_sorts}
use Rattle.larch_verify_meaning.specs.RenamingRenaming.{Renaming, rename_tree, renamed_all}
use Rattle.larch_verify_meaning.specs.RenamingRenaming.{renamed_entry, renamed_statement}
use Rattle.larch_verify_meaning.specs.RenamingRenaming.{FitsSignatures}
use Rattle.larch_certificate.specs.Coded.{CodedTree, CodedForest, coded_var, coded_app, no_terms, term_then}
use Rattle.larch_certificate.specs.declared.line.Binding.{Binding}
use Rattle.larch_certificate.specs.declared.line.CodedEquation.{CodedEquation}
use Rattle.larch_certificate.specs.declared.symbol.Symbol.{Symbol}
use Rattle.larch_certificate.specs.declared.symbol.Symbol.TheVariants.{Own, Constant, BuiltIn}
use Rattle.larch_verify_meaning.specs.Context.{find_open, last_sort, find_symbol}
use Rattle.larch_verify_meaning.specs.Decoding.{applied_to, decode, decode_all, equation_between, decode_equation}
use Rattle.larch_verify_meaning.specs.Decoding.{entry_for, decode_binding}
use Rattle.larch_verify_meaning.specs.Events.{PlainBox, operators_of, Event}
use Rattle.larch_verify_law.specs.Carrying.{IsMove}
use Rattle.larch_verify_law.specs.Moves.{Move, moved_symbol, moved_term, moved_terms, moved_equation, moved_binding}
use Rattle.larch_verify_law.specs.Moves.{moved_box}
use Rattle.larch_verify_law.proofs.MovedTests.{same_bytes, same_sorts, chosen, numbered_mapped, operators_moved}
use Rattle.larch_verify_law.proofs.Told.{option_map_some, bytes_told}

-- what a bind gives behind a move
pub bound : {A B : Type 0} (g : A → Option B) (p : Option A) (x : A) (y : B) → p ≡ Some x → g x ≡ Some y
    → option_and_then g p ≡ Some y
bound g p x y k l = ap (option_and_then g) k ∙ l

got_or_moved : (f : List ℕ → List ℕ) → f [] ≡ [] → (ss : List (List ℕ)) (k : ℕ)
    → get_or (map f ss) k [] ≡ f (get_or ss k [])
got_or_moved f e [] k = sym e
got_or_moved f e (s ∷ ss) zero = refl
got_or_moved f e (s ∷ ss) (suc k) = got_or_moved f e ss k

last_moved : (f : List ℕ → List ℕ) → f [] ≡ [] → (ss : List (List ℕ)) → last_sort (map f ss) ≡ f (last_sort ss)
last_moved f e ss =
    ap (λ n. get_or (map f ss) (n - 1) []) (length-map ss f) ∙ got_or_moved f e ss (length ss - 1)

-- what symbols mean, they mean moved
abbrev pub FindsMoved : Move → (Symbol → List (List ℕ) → Option PlainOperator)
    → (Symbol → List (List ℕ) → Option PlainOperator) → Type 0
FindsMoved m f g =
    (y : Symbol) (ss : List (List ℕ)) (o : PlainOperator) → f y ss ≡ Some o
    → g (moved_symbol m y) (map m.renaming.sort ss) ≡ Some (m.renaming.operator o)

-- open boxes are found moved
abbrev pub OpenMoved : Move → List Event → List Event → Type 0
OpenMoved m h g = (b : ℕ) (x : PlainBox) → find_open h b ≡ Some x → find_open g (m.box b) ≡ Some (moved_box m x)

pub symbols_moved : (m : Move) (t u : Theory) → IsMove m t u → (h g : List Event) → OpenMoved m h g
    → FindsMoved m (find_symbol t h) (find_symbol u g)
symbols_moved m t u x h g k (Own n) ss o e = x.operators n o e
symbols_moved m t u x h g k (Constant b n) ss o e =
    option_and_then_some (λ box. numbered (operators_of box) n) (find_open h b) o e
    (λ box p q. bound (λ c. numbered (operators_of c) n) (find_open g (m.box b)) (moved_box m box)
    (m.renaming.operator o) (k b box p)
    (ap (λ os. numbered os n) (sym (operators_moved m t u x box))
    ∙ numbered_mapped m.renaming.operator (operators_of box) n o q))
symbols_moved m t u x h g k (BuiltIn b) ss o e =
    ap (λ s. Some (built_in b s)) (last_moved m.renaming.sort x.no_sort ss)
    ∙ ap Some (sym (x.faithful.built_in.operators b (last_sort ss)) ∙ ap m.renaming.operator (some_inj e))

applied_moved : (r : Renaming) → FitsSignatures r → (ts : Forest) (o : PlainOperator) (t : Tree)
    → applied_to ts o ≡ Some t → applied_to (renamed_all r ts) (r.operator o) ≡ Some (rename_tree r t)
applied_moved r h ts o t e =
    let c = cond_some (pointwise bytes_eq (sorts_of ts) o.domain) (app o ts) t e in
    chosen (pointwise bytes_eq (sorts_of (renamed_all r ts)) (r.operator o).domain) (app (r.operator o)
    (renamed_all r ts))
    (same_sorts (sorts_of (renamed_all r ts)) (r.operator o).domain
    (renamed_sorts r h ts ∙ ap (map r.sort) ((sorts_Decides (sorts_of ts) o.domain).0 c.0) ∙ sym (h.domain o)))
    ∙ ap (λ y. Some (rename_tree r y)) c.1

mutual
  pub decode_moved : (m : Move) → FitsSignatures m.renaming → (f g : Symbol → List (List ℕ) → Option PlainOperator)
      → FindsMoved m f g → (c : CodedTree) (t : Tree) → decode f c ≡ Some t
      → decode g (moved_term m c) ≡ Some (rename_tree m.renaming t)
  decode_moved m h f g k (coded_var n s) t e = ap (option_map (rename_tree m.renaming)) e
  decode_moved m h f g k (coded_app y cs) t e =
      let r = m.renaming in
      option_and_then_some (λ ts. option_and_then (applied_to ts) (f y (sorts_of ts))) (decode_all f cs) t e
      (λ ts p q. option_and_then_some (applied_to ts) (f y (sorts_of ts)) t q
      (λ o i j.
      bound (λ us. option_and_then (applied_to us) (g (moved_symbol m y) (sorts_of us)))
      (decode_all g (moved_terms m cs)) (renamed_all r ts) (rename_tree r t) (decode_all_moved m h f g k cs ts p)
      (bound (applied_to (renamed_all r ts)) (g (moved_symbol m y) (sorts_of (renamed_all r ts))) (r.operator o)
      (rename_tree r t)
      (ap (g (moved_symbol m y)) (renamed_sorts r h ts) ∙ k y (sorts_of ts) o i) (applied_moved r h ts o t j))))

  pub decode_all_moved : (m : Move) → FitsSignatures m.renaming
      → (f g : Symbol → List (List ℕ) → Option PlainOperator) → FindsMoved m f g → (cs : CodedForest) (ts : Forest)
      → decode_all f cs ≡ Some ts → decode_all g (moved_terms m cs) ≡ Some (renamed_all m.renaming ts)
  decode_all_moved m h f g k no_terms ts e = ap (option_map (renamed_all m.renaming)) e
  decode_all_moved m h f g k (term_then c cs) ts e =
      let r = m.renaming in
      option_and_then_some (λ t. option_map (λ us. more t us) (decode_all f cs)) (decode f c) ts e
      (λ t p q. option_map_some (λ us. more t us) (decode_all f cs) ts q
      (λ us i j.
      bound (λ t. option_map (λ us. more t us) (decode_all g (moved_terms m cs))) (decode g (moved_term m c))
      (rename_tree r t) (renamed_all r ts) (decode_moved m h f g k c t p)
      (ap (option_map (λ us. more (rename_tree r t) us)) (decode_all_moved m h f g k cs us i)
      ∙ ap (λ vs. Some (renamed_all r vs)) j)))

between_moved : (r : Renaming) → FitsSignatures r → (a b : Tree) (s : Statement) → equation_between a b ≡ Some s
    → equation_between (rename_tree r a) (rename_tree r b) ≡ Some (renamed_statement r s)
between_moved r h a b s e =
    let c = cond_some (bytes_eq (sort_of a) (sort_of b)) (Equation a b) s e in
    chosen (bytes_eq (sort_of (rename_tree r a)) (sort_of (rename_tree r b)))
    (Equation (rename_tree r a) (rename_tree r b))
    (same_bytes (sort_of (rename_tree r a)) (sort_of (rename_tree r b))
    (renamed_sort r h a ∙ ap r.sort (bytes_told (sort_of a) (sort_of b) c.0) ∙ sym (renamed_sort r h b)))
    ∙ ap (λ z. Some (renamed_statement r z)) c.1

pub equation_moved : (m : Move) → FitsSignatures m.renaming → (f g : Symbol → List (List ℕ) → Option PlainOperator)
    → FindsMoved m f g → (c : CodedEquation) (s : Statement) → decode_equation f c ≡ Some s
    → decode_equation g (moved_equation m c) ≡ Some (renamed_statement m.renaming s)
equation_moved m h f g k c s e =
    let r = m.renaming in
    option_and_then_some (λ l. option_and_then (equation_between l) (decode f c.right)) (decode f c.left) s e
    (λ a p q. option_and_then_some (equation_between a) (decode f c.right) s q
    (λ b i j.
    bound (λ l. option_and_then (equation_between l) (decode g (moved_term m c.right))) (decode g (moved_term m c.left))
    (rename_tree r a) (renamed_statement r s) (decode_moved m h f g k c.left a p)
    (bound (equation_between (rename_tree r a)) (decode g (moved_term m c.right)) (rename_tree r b)
    (renamed_statement r s) (decode_moved m h f g k c.right b i) (between_moved r h a b s j))))

pub binding_moved : (m : Move) → FitsSignatures m.renaming → (f g : Symbol → List (List ℕ) → Option PlainOperator)
    → FindsMoved m f g → (b : Binding) (y : Entry) → decode_binding f b ≡ Some y
    → decode_binding g (moved_binding m b) ≡ Some (renamed_entry m.renaming y)
binding_moved m h f g k b y e =
    let r = m.renaming in
    option_and_then_some (entry_for b) (decode f b.term) y e
    (λ t p q.
    let old : Entry = record { name = b.name; sort = b.sort; term = t } in
    let c = cond_some (bytes_eq (sort_of t) b.sort) old y q in
    bound (entry_for (moved_binding m b)) (decode g (moved_term m b.term)) (rename_tree r t) (renamed_entry r y)
    (decode_moved m h f g k b.term t p)
    (chosen (bytes_eq (sort_of (rename_tree r t)) (r.sort b.sort)) (renamed_entry r old)
    (same_bytes (sort_of (rename_tree r t)) (r.sort b.sort)
    (renamed_sort r h t ∙ ap r.sort (bytes_told (sort_of t) b.sort c.0)))
    ∙ ap (λ z. Some (renamed_entry r z)) c.1))
