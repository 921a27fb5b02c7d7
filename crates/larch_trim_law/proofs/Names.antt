-- What lines name: lines whose numbers change alike change alike, and a moved line names what the line names, moved.
use Rattle.std.proofs.Common.{◌≡◌, ℕ, List, [], ◌∷◌, ◌++◌, map, flat_map, Contains, refl}
use Rattle.std.proofs.Common.{sym, ◌∙◌, ap}
use Rattle.std.proofs.lemmas.List.{map-append}
use Rattle.larch_base.proofs.Lists.{map_by}
use Rattle.larch_base.proofs.Members.{contains_here, contains_later, contains_left, contains_right, contains_flat_map}
use Rattle.larch_term.specs.Operator.{PlainOperator}
use Rattle.larch_certificate.specs.Coded.{CodedTree, CodedForest, coded_var, coded_app, no_terms, term_then}
use Rattle.larch_certificate.specs.declared.line.Binding.{Binding}
use Rattle.larch_certificate.specs.declared.line.CodedEquation.{CodedEquation}
use Rattle.larch_certificate.specs.declared.line.Line.{Line}
use Rattle.larch_certificate.specs.declared.line.Line.TheVariants.{Axiom, Hyp, Row, Refl, Sym, Inst, Repl, Equal}
use Rattle.larch_certificate.specs.declared.line.Line.TheVariants.{BoxLine, Done, Fresh, Cases, Induct, Observe}
use Rattle.larch_certificate.specs.declared.line.Line.TheVariants.{Generated, Partitioned}
use Rattle.larch_certificate.specs.declared.symbol.Symbol.{Symbol}
use Rattle.larch_certificate.specs.declared.symbol.Symbol.TheVariants.{Own, Constant, BuiltIn}
use Rattle.larch_verify_law.specs.Moves.{Move, moved_symbol, moved_term, moved_terms, moved_equation, moved_binding}
use Rattle.larch_verify_law.specs.Moves.{moved_part, moved_variable, moved_line}
use Rattle.larch_trim_meaning.specs.Needed.{box_of_symbol, boxes_in, boxes_in_all, boxes_in_equation}
use Rattle.larch_trim_meaning.specs.Needed.{boxes_in_binding}
use Rattle.larch_trim_meaning.specs.Needed.{names}

-- other numbers of lines and boxes; what takes the places of operators doesn't show in lines
abbrev pub renumbering : (ℕ → ℕ) → (PlainOperator → PlainOperator) → Move
renumbering f r =
    record {
      line = f;
      box = f;
      operator = λ k. k;
      statement = λ k. k;
      renaming = record { sort = λ s. s; operator = r };
    }

-- ---- lines whose numbers change alike

module _ (f g : ℕ → ℕ) (r q : PlainOperator → PlainOperator) where
  abbrev Alike : List ℕ → Type 0
  Alike ns = (n : ℕ) → Contains ns n → f n ≡ g n

  abbrev one : Move
  one = renumbering f r

  abbrev two : Move
  two = renumbering g q

  alike_first : (n : ℕ) (ns : List ℕ) → Alike (n ∷ ns) → f n ≡ g n
  alike_first n ns k = k n (contains_here n ns)

  alike_rest : (n : ℕ) (ns : List ℕ) → Alike (n ∷ ns) → Alike ns
  alike_rest n ns k m c = k m (contains_later n m ns c)

  alike_left : (ns ms : List ℕ) → Alike (ns ++ ms) → Alike ns
  alike_left ns ms k m c = k m (contains_left ns ms m c)

  alike_right : (ns ms : List ℕ) → Alike (ns ++ ms) → Alike ms
  alike_right ns ms k m c = k m (contains_right ns ms m c)

  symbol_alike : (y : Symbol) → Alike (box_of_symbol y) → moved_symbol one y ≡ moved_symbol two y
  symbol_alike (Own k) a = refl
  symbol_alike (Constant b k) a = ap (λ n. Constant n k) (alike_first b [] a)
  symbol_alike (BuiltIn b) a = refl

  mutual
    term_alike : (c : CodedTree) → Alike (boxes_in c) → moved_term one c ≡ moved_term two c
    term_alike (coded_var n s) a = refl
    term_alike (coded_app y cs) a =
        λ i. coded_app (symbol_alike y (alike_left (box_of_symbol y) (boxes_in_all cs) a) i)
        (terms_alike cs (alike_right (box_of_symbol y) (boxes_in_all cs) a) i)

    terms_alike : (cs : CodedForest) → Alike (boxes_in_all cs) → moved_terms one cs ≡ moved_terms two cs
    terms_alike no_terms a = refl
    terms_alike (term_then c cs) a =
        λ i. term_then (term_alike c (alike_left (boxes_in c) (boxes_in_all cs) a) i)
        (terms_alike cs (alike_right (boxes_in c) (boxes_in_all cs) a) i)

  equation_alike : (e : CodedEquation) → Alike (boxes_in_equation e) → moved_equation one e ≡ moved_equation two e
  equation_alike e a =
      λ i. record {
        left = term_alike e.left (alike_left (boxes_in e.left) (boxes_in e.right) a) i;
        right = term_alike e.right (alike_right (boxes_in e.left) (boxes_in e.right) a) i;
      }

  equations_alike : (es : List CodedEquation) → Alike (flat_map boxes_in_equation es)
      → map (moved_equation one) es ≡ map (moved_equation two) es
  equations_alike es a =
      map_by (moved_equation one) (moved_equation two) es
      (λ e c. equation_alike e (λ n d. a n (contains_flat_map boxes_in_equation es e n c d)))

  binding_alike : (b : Binding) → Alike (boxes_in_binding b) → moved_binding one b ≡ moved_binding two b
  binding_alike b a = λ i. record { name = b.name; sort = b.sort; term = term_alike b.term a i }

  bindings_alike : (bs : List Binding) → Alike (flat_map boxes_in_binding bs)
      → map (moved_binding one) bs ≡ map (moved_binding two) bs
  bindings_alike bs a =
      map_by (moved_binding one) (moved_binding two) bs
      (λ b c. binding_alike b (λ n d. a n (contains_flat_map boxes_in_binding bs b n c d)))

  -- where what a line names gets the same numbers, the line becomes the same one
  pub line_alike : (l : Line) → Alike (names l) → moved_line one l ≡ moved_line two l
  line_alike (Axiom k) a = refl
  line_alike (Hyp b k) a = ap (λ n. Hyp n k) (alike_first b [] a)
  line_alike (Row k s) a = refl
  line_alike (Refl c) a = ap Refl (term_alike c a)
  line_alike (Sym n) a = ap Sym (alike_first n [] a)
  line_alike (Inst n bs) a =
      let rest = flat_map boxes_in_binding bs in
      λ i. Inst (alike_first n rest a i) (bindings_alike bs (alike_rest n rest a) i)
  line_alike (Repl n p k) a =
      λ i. Repl (alike_first n (k ∷ []) a i) p (alike_first k [] (alike_rest n (k ∷ []) a) i)
  line_alike (Equal n) a = ap Equal (alike_first n [] a)
  line_alike (BoxLine ps es) a = ap (BoxLine (map (moved_part one) ps)) (equations_alike es a)
  line_alike Done a = refl
  line_alike (Fresh b vs) a = ap (λ n. Fresh n (map (moved_variable one) vs)) (alike_first b [] a)
  line_alike (Cases b c) a =
      λ i. Cases (alike_first b (c ∷ []) a i) (alike_first c [] (alike_rest b (c ∷ []) a) i)
  line_alike (Induct n x e bs) a =
      let es = boxes_in_equation e in
      let rest = alike_rest n (es ++ bs) a in
      λ i. Induct (alike_first n (es ++ bs) a i) x (equation_alike e (alike_left es bs rest) i)
      (map_by f g bs (alike_right es bs rest) i)
  line_alike (Observe n e ns) a =
      let es = boxes_in_equation e in
      let rest = alike_rest n (es ++ ns) a in
      λ i. Observe (alike_first n (es ++ ns) a i) (equation_alike e (alike_left es ns rest) i)
      (map_by f g ns (alike_right es ns rest) i)
  line_alike (Generated b s ks) a = ap (λ n. Generated n s (map (λ k. k) ks)) (alike_first b [] a)
  line_alike (Partitioned b s ks) a = ap (λ n. Partitioned n s (map (λ k. k) ks)) (alike_first b [] a)

-- ---- what a moved line names

module _ (f : ℕ → ℕ) (r : PlainOperator → PlainOperator) where
  abbrev by : Move
  by = renumbering f r

  symbol_names : (y : Symbol) → box_of_symbol (moved_symbol by y) ≡ map f (box_of_symbol y)
  symbol_names (Own k) = refl
  symbol_names (Constant b k) = refl
  symbol_names (BuiltIn b) = refl

  both_names : (ns ms us vs : List ℕ) → us ≡ map f ns → vs ≡ map f ms → us ++ vs ≡ map f (ns ++ ms)
  both_names ns ms us vs p q = (λ i. p i ++ q i) ∙ sym (map-append f ns ms)

  mutual
    term_names : (c : CodedTree) → boxes_in (moved_term by c) ≡ map f (boxes_in c)
    term_names (coded_var n s) = refl
    term_names (coded_app y cs) =
        both_names (box_of_symbol y) (boxes_in_all cs) (box_of_symbol (moved_symbol by y))
        (boxes_in_all (moved_terms by cs)) (symbol_names y) (terms_names cs)

    terms_names : (cs : CodedForest) → boxes_in_all (moved_terms by cs) ≡ map f (boxes_in_all cs)
    terms_names no_terms = refl
    terms_names (term_then c cs) =
        both_names (boxes_in c) (boxes_in_all cs) (boxes_in (moved_term by c)) (boxes_in_all (moved_terms by cs))
        (term_names c) (terms_names cs)

  equation_names : (e : CodedEquation) → boxes_in_equation (moved_equation by e) ≡ map f (boxes_in_equation e)
  equation_names e =
      both_names (boxes_in e.left) (boxes_in e.right) (boxes_in (moved_term by e.left))
      (boxes_in (moved_term by e.right))
      (term_names e.left) (term_names e.right)

  equations_names : (es : List CodedEquation)
      → flat_map boxes_in_equation (map (moved_equation by) es) ≡ map f (flat_map boxes_in_equation es)
  equations_names [] = refl
  equations_names (e ∷ es) =
      both_names (boxes_in_equation e) (flat_map boxes_in_equation es) (boxes_in_equation (moved_equation by e))
      (flat_map boxes_in_equation (map (moved_equation by) es)) (equation_names e) (equations_names es)

  bindings_names : (bs : List Binding)
      → flat_map boxes_in_binding (map (moved_binding by) bs) ≡ map f (flat_map boxes_in_binding bs)
  bindings_names [] = refl
  bindings_names (b ∷ bs) =
      both_names (boxes_in_binding b) (flat_map boxes_in_binding bs) (boxes_in_binding (moved_binding by b))
      (flat_map boxes_in_binding (map (moved_binding by) bs)) (term_names b.term) (bindings_names bs)

  pub line_names : (l : Line) → names (moved_line by l) ≡ map f (names l)
  line_names (Axiom k) = refl
  line_names (Hyp b k) = refl
  line_names (Row k s) = refl
  line_names (Refl c) = term_names c
  line_names (Sym n) = refl
  line_names (Inst n bs) = ap (λ ns. f n ∷ ns) (bindings_names bs)
  line_names (Repl n p k) = refl
  line_names (Equal n) = refl
  line_names (BoxLine ps es) = equations_names es
  line_names Done = refl
  line_names (Fresh b vs) = refl
  line_names (Cases b c) = refl
  line_names (Induct n x e bs) =
      ap (λ ns. f n ∷ ns)
      (both_names (boxes_in_equation e) bs (boxes_in_equation (moved_equation by e)) (map f bs) (equation_names e) refl)
  line_names (Observe n e ns) =
      ap (λ ms. f n ∷ ms)
      (both_names (boxes_in_equation e) ns (boxes_in_equation (moved_equation by e)) (map f ns) (equation_names e) refl)
  line_names (Generated b s ks) = refl
  line_names (Partitioned b s ks) = refl
