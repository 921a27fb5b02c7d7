-- In the first reference behind `implies` nothing is counted. So a flaw that is counted where references follow stands
-- behind it, or stands where an item follows too.
use Rattle.std.proofs.Common.{◌≡◌, ℕ, ◌⊎◌, Bool, true, false, not, cond, Option, Some, None, Result, Ok, Err, List, []}
use Rattle.std.proofs.Common.{◌∷◌, inl, inr, refl, sym, ap, subst, ◌∙◌}
use Rattle.larch_base.specs.declared.position.Pos.{Pos}
use Rattle.larch_lexer.specs.declared.token.Token.{Token}
use Rattle.larch_grammar_law.specs.Answer.{at_end, at_mark, at_step, go_on}
use Rattle.larch_grammar_law.specs.Claims.{position_or}
use Rattle.larch_grammar_law.specs.Mark.{admission}
use Rattle.larch_grammar_law.specs.declared.mark.Flaw.{Flaw}
use Rattle.larch_grammar_law.specs.declared.mark.Flaw.TheVariants.{Syntax}
use Rattle.larch_grammar_law.proofs.Walking.{none_some, some_equal}
use Rattle.larch_raw.specs.declared.declared.RawForm.{RawForm}
use Rattle.larch_raw.specs.declared.declared.RawWord.{RawWord}
use Rattle.larch_raw.specs.declared.equation.RawTrait.{RawTrait}
use Rattle.larch_grammar.specs.Answers.{trait_from}
use Rattle.larch_grammar.specs.Composition.{close_ref, open_ref}
use Rattle.larch_grammar.specs.Leading.{behind_first, behind_group, behind_word, from_first, from_second, open_depth}
use Rattle.larch_grammar.specs.Leading.{or_further}
use Rattle.larch_grammar.specs.Machine.{Taking, after_form, after_bracket_marker, after_leading_marker}
use Rattle.larch_grammar.specs.Machine.{after_marker_symbol, after_trait_ref, after_ref_name, after_rename}
use Rattle.larch_grammar.specs.Machine.{after_symbol_form, as_trait, begin_form, begin_item, end_form, end_marks, final}
use Rattle.larch_grammar.specs.Machine.{after_form_bracket, outside, step, step_at}
use Rattle.larch_grammar.specs.Refused.{earlier, implied_tokens, is_counted, is_implies, known, position_of_token}
use Rattle.larch_grammar.specs.Refused.{reaches_end}
use Rattle.larch_grammar.specs.Terminal.{ends_reference, terminal_of}
use Rattle.larch_grammar.specs.declared.terminal.Bracket.{Bracket}
use Rattle.larch_grammar.specs.declared.terminal.Bracket.TheVariants.{Square, Curly}
use Rattle.larch_grammar.specs.declared.terminal.Terminal.{Terminal}
use Rattle.larch_grammar.specs.declared.terminal.Terminal.TheVariants.{Word, Symbol, Arrow, Colon, Comma, Dot, Marker}
use Rattle.larch_grammar.specs.declared.terminal.Terminal.TheVariants.{Open, Close, OpenBracket, CloseBracket, For}
use Rattle.larch_grammar.specs.declared.terminal.Terminal.TheVariants.{Generated, Partitioned}
use Rattle.larch_grammar.specs.declared.machine.FormBracket.{FormBracket}
use Rattle.larch_grammar.specs.declared.machine.Naming.{Naming}
use Rattle.larch_grammar.specs.declared.machine.Naming.TheVariants.{Actual, Renaming, Renamed}
use Rattle.larch_grammar.specs.declared.machine.OpenRef.{OpenRef}
use Rattle.larch_grammar.specs.declared.machine.RefKind.{RefKind}
use Rattle.larch_grammar.specs.declared.machine.RefKind.TheVariants.{First}
use Rattle.larch_grammar.specs.declared.machine.Signing.{Signing}
use Rattle.larch_grammar.specs.declared.machine.Signing.TheVariants.{Replacement}
use Rattle.larch_grammar.specs.declared.machine.State.{State}
use Rattle.larch_grammar.specs.declared.machine.State.TheVariants.{NeedRef, AfterRefName, AfterTraitRef, AfterRename}
use Rattle.larch_grammar.specs.declared.machine.State.TheVariants.{NeedForm, AfterSymbolForm, AfterDotForm}
use Rattle.larch_grammar.specs.declared.machine.State.TheVariants.{AfterLeadingMarker, AfterMarkerSymbol}
use Rattle.larch_grammar.specs.declared.machine.State.TheVariants.{AfterFormBracket, AfterBracketMarker}
use Rattle.larch_grammar.specs.declared.machine.State.TheVariants.{NeedBracketMarker, AfterForm, NeedSig, AfterSort}
use Rattle.larch_grammar.specs.declared.machine.State.TheVariants.{NeedSort, NeedRange}
use Rattle.larch_grammar.proofs.Places.{Ordered, both_true, first_after, never_itself, not_earlier}
use Rattle.larch_grammar.proofs.Readings.{Parts, Read, a_part, no_part, parts_in, same, token_read, two_parts}

-- the steps inside the parenthesis of a reference

-- what the reference is for whose actual this is
abbrev naming_kind : Naming → Option RefKind
naming_kind (Actual o) = Some o.kind
naming_kind (Renaming o) = Some o.kind
naming_kind (Renamed o f) = Some o.kind
naming_kind _ = None

abbrev signing_kind : Signing → Option RefKind
signing_kind (Replacement o f g) = Some o.kind
signing_kind _ = None

-- what the reference is for in whose parenthesis this state is
abbrev inside_kind : State → Option RefKind
inside_kind (NeedForm n) = naming_kind n
inside_kind (AfterSymbolForm n x) = naming_kind n
inside_kind (AfterDotForm n p) = naming_kind n
inside_kind (AfterLeadingMarker n p) = naming_kind n
inside_kind (AfterMarkerSymbol n p x) = naming_kind n
inside_kind (AfterFormBracket c) = naming_kind c.naming
inside_kind (AfterBracketMarker c m) = naming_kind c.naming
inside_kind (NeedBracketMarker c m) = naming_kind c.naming
inside_kind (AfterForm n f) = naming_kind n
inside_kind (NeedSig n) = signing_kind n
inside_kind (AfterSort n ws) = signing_kind n
inside_kind (NeedSort n ws) = signing_kind n
inside_kind (NeedRange n ws) = signing_kind n
inside_kind (AfterRename o) = Some o.kind
inside_kind _ = None

-- it is the first one behind `implies`
abbrev OfFirst : Option RefKind → Type 0
OfFirst b = b ≡ Some First

-- a step inside the parenthesis: none, or `)`, or to another state inside it with a token that is no parenthesis
data Inside : Terminal → Taking → Type 0 where
  refused : {x : Terminal} → Inside x None
  closes : {r : RawTrait} {b : RefKind} → OfFirst (Some b) → Inside Close (outside (AfterTraitRef r b))
  goes_on : {x : Terminal} {k : State} → open_depth x 0 ≡ Some 0 → OfFirst (inside_kind k) → Inside x (outside k)

form_inside : (n : Naming) (f : RawForm) (x : Terminal) → OfFirst (naming_kind n) → Inside x (after_form n f x)
form_inside (Actual o) f For e = goes_on refl e
form_inside (Actual o) f Comma e = goes_on refl e
form_inside (Actual o) f Close e = closes e
form_inside (Actual o) f _ e = refused
form_inside (Renaming o) f For e = goes_on refl e
form_inside (Renaming o) f _ e = refused
form_inside (Renamed o f) g (Colon p) e = goes_on refl e
form_inside (Renamed o f) g Comma e = goes_on refl e
form_inside (Renamed o f) g Close e = closes e
form_inside (Renamed o f) g _ e = refused
form_inside n f x e = absurd (none_some e)

marks_inside : (n : Naming) (behind : Bool) (b : Bracket) (m : ℕ) (p : Pos) (x : Terminal)
    → OfFirst (naming_kind n) → Inside x (end_marks n behind b m p x)
marks_inside n behind Square m p (CloseBracket Square) e = goes_on refl e
marks_inside n behind Curly m p (CloseBracket Curly) e = goes_on refl e
marks_inside n behind b m p x e = refused

begin_inside : (n : Naming) (x : Terminal) → OfFirst (naming_kind n) → Inside x (begin_form n x)
begin_inside n (Word w) e = goes_on refl e
begin_inside n (Symbol w) e = goes_on refl e
begin_inside n (Dot p) e = goes_on refl e
begin_inside n (Marker p) e = goes_on refl e
begin_inside n (OpenBracket b p) e = goes_on refl e
begin_inside n _ e = refused

symbol_inside : (n : Naming) (w : RawWord) (x : Terminal) → OfFirst (naming_kind n) → Inside x (after_symbol_form n w x)
symbol_inside n w (Marker p) e = goes_on refl e
symbol_inside n w x e = form_inside n _ x e

marker_inside : (n : Naming) (p : Pos) (x : Terminal) → OfFirst (naming_kind n) → Inside x (after_leading_marker n p x)
marker_inside n p (Dot q) e = goes_on refl e
marker_inside n p (Symbol w) e = goes_on refl e
marker_inside n p (OpenBracket b q) e = goes_on refl e
marker_inside n p _ e = refused

marker_symbol_inside : (n : Naming) (p : Pos) (w : RawWord) (x : Terminal) → OfFirst (naming_kind n)
    → Inside x (after_marker_symbol n p w x)
marker_symbol_inside n p w (Marker q) e = goes_on refl e
marker_symbol_inside n p w x e = form_inside n _ x e

need_marks_inside : (c : FormBracket) (x : Terminal) → OfFirst (naming_kind c.naming)
    → Inside x (after_form_bracket c x)
need_marks_inside c (Marker q) e = goes_on refl e
need_marks_inside c x e = marks_inside c.naming c.behind c.bracket 0 c.pos x e

mark_inside : (c : FormBracket) (m : ℕ) (x : Terminal) → OfFirst (naming_kind c.naming)
    → Inside x (after_bracket_marker c m x)
mark_inside c m Comma e = goes_on refl e
mark_inside c m x e = marks_inside c.naming c.behind c.bracket m c.pos x e

rename_inside : (o : OpenRef) (x : Terminal) → OfFirst (Some o.kind) → Inside x (after_rename o x)
rename_inside o Comma e = goes_on refl e
rename_inside o Close e = closes e
rename_inside o _ e = refused

range_inside : (s : Bool) (n : Signing) (ws : List RawWord) (x : Terminal) → OfFirst (signing_kind n)
    → Inside x (step s (NeedRange n ws) x)
range_inside s (Replacement o f g) ws (Word w) e = goes_on refl e
range_inside s (Replacement o f g) ws _ e = refused
range_inside s n ws x e = absurd (none_some e)

step_inside : (n : State) (x : Terminal) → OfFirst (inside_kind n) → Inside x (step true n x)
step_inside (NeedForm n) x e = begin_inside n x e
step_inside (AfterSymbolForm n w) x e = symbol_inside n w x e
step_inside (AfterDotForm n p) (Word w) e = goes_on refl e
step_inside (AfterDotForm n p) _ e = refused
step_inside (AfterLeadingMarker n p) x e = marker_inside n p x e
step_inside (AfterMarkerSymbol n p w) x e = marker_symbol_inside n p w x e
step_inside (AfterFormBracket c) x e = need_marks_inside c x e
step_inside (AfterBracketMarker c m) x e = mark_inside c m x e
step_inside (NeedBracketMarker c m) (Marker q) e = goes_on refl e
step_inside (NeedBracketMarker c m) _ e = refused
step_inside (AfterForm n f) x e = form_inside n f x e
step_inside (NeedSig n) (Word w) e = goes_on refl e
step_inside (NeedSig n) Arrow e = goes_on refl e
step_inside (NeedSig n) _ e = refused
step_inside (AfterSort n ws) Comma e = goes_on refl e
step_inside (AfterSort n ws) Arrow e = goes_on refl e
step_inside (AfterSort n ws) _ e = refused
step_inside (NeedSort n ws) (Word w) e = goes_on refl e
step_inside (NeedSort n ws) _ e = refused
step_inside (NeedRange n ws) x e = range_inside true n ws x e
step_inside (AfterRename o) x e = rename_inside o x e
step_inside n x e = absurd (none_some e)

form_unended : (n : Naming) (f : RawForm) → OfFirst (naming_kind n) → as_trait (end_form n f) ≡ None
form_unended (Actual o) f e = refl
form_unended (Renaming o) f e = refl
form_unended (Renamed o g) f e = refl
form_unended n f e = absurd (none_some e)

-- the tokens don't end inside a parenthesis
unended : (n : State) → OfFirst (inside_kind n) → as_trait (final n) ≡ None
unended (NeedForm n) e = refl
unended (AfterSymbolForm n w) e = form_unended n _ e
unended (AfterDotForm n p) e = refl
unended (AfterLeadingMarker n p) e = refl
unended (AfterMarkerSymbol n p w) e = form_unended n _ e
unended (AfterFormBracket c) e = refl
unended (AfterBracketMarker c m) e = refl
unended (NeedBracketMarker c m) e = refl
unended (AfterForm n f) e = form_unended n f e
unended (NeedSig n) e = refl
unended (AfterSort n ws) e = refl
unended (NeedSort n ws) e = refl
unended (NeedRange n ws) e = refl
unended (AfterRename o) e = refl
unended n e = absurd (none_some e)

-- flaws

abbrev Reading : Type 0
Reading = Result RawTrait (Flaw × Pos)

-- this flaw is answered
abbrev Flawed : Reading → Flaw × Pos → Type 0
Flawed answer f = answer ≡ Err f

err_equal : {f g : Flaw × Pos} → Flawed (Err f) g → f ≡ g
err_equal e = cc

not_ok : {A : Type 0} {r : RawTrait} {f : Flaw × Pos} → Flawed (Ok r) f → A
not_ok e = absurd (cc)

-- it is MIXED, DEEP or SIZE
abbrev Counts : Flaw × Pos → Type 0
Counts f = is_counted f.0 ≡ true

not_syntax : {A : Type 0} {p : Pos} {f : Flaw × Pos} → Flawed (Err (Syntax, p)) f → Counts f → A
not_syntax e c = let q : false ≡ true = ap (λ (g : Flaw × Pos). is_counted g.0) (err_equal e) ∙ c in absurd (cc)

-- the answer behind a token
abbrev Going : Type 0
Going = ℕ → State → Reading

mark_at : (p : Pos) (k : State) (go : Going) (f : Flaw × Pos) (a : Result ℕ Flaw)
    → Flawed (go_on (at_mark p k a) go) f → (f.1 ≡ p) ⊎ ((m : ℕ) × Flawed (go m k) f)
mark_at p k go f (Err flaw) e = inl (ap (λ (g : Flaw × Pos). g.1) (sym (err_equal e)))
mark_at p k go f (Ok m) e = inr (m, e)

-- a flaw stands at a token or behind it
step_at_place : (p : Pos) (h : ℕ) (go : Going) (f : Flaw × Pos) (o : Taking) → Flawed (go_on (at_step p h o) go) f
    → (f.1 ≡ p) ⊎ ((m : ℕ) × (k : State) × Flawed (go m k) f)
step_at_place p h go f None e = inl (ap (λ (g : Flaw × Pos). g.1) (sym (err_equal e)))
step_at_place p h go f (Some taken) e = by (mark_at p taken.1 go f (admission h taken.0) e)
  where
    by : (f.1 ≡ p) ⊎ ((m : ℕ) × Flawed (go m taken.1) f) → (f.1 ≡ p) ⊎ ((m : ℕ) × (k : State) × Flawed (go m k) f)
    by (inl q) = inl q
    by (inr q) = inr (q.0, taken.1, q.1)

end_place : (end : Pos) (f : Flaw × Pos) (o : Option RawTrait) → Flawed (at_end end o) f → earlier f.1 end ≡ false
end_place end f None e = subst (λ (g : Flaw × Pos). earlier g.1 end ≡ false) (err_equal e) (never_itself end)
end_place end f (Some r) e = not_ok e

place_or_later : (p q : Pos) (f : Flaw × Pos) → (f.1 ≡ p) ⊎ (earlier f.1 q ≡ false)
    → (earlier f.1 q ≡ false → earlier f.1 p ≡ false) → earlier f.1 p ≡ false
place_or_later p q f (inl e) h = subst (λ x. earlier x p ≡ false) (sym e) (never_itself p)
place_or_later p q f (inr e) h = h e

later_place : (p q : Pos) (go : Going) (f : Flaw × Pos)
    → ((m : ℕ) (k : State) → Flawed (go m k) f → earlier f.1 q ≡ false)
    → (f.1 ≡ p) ⊎ ((m : ℕ) × (k : State) × Flawed (go m k) f)
    → (f.1 ≡ p) ⊎ (earlier f.1 q ≡ false)
later_place p q go f h (inl e) = inl e
later_place p q go f h (inr e) = inr (h e.0 e.1 e.2)

-- no flaw stands before the tokens
pub not_before : (g : Bool) (end : Pos) (ts : List Token) (h : ℕ) (n : State) (f : Flaw × Pos) → Ordered end ts
    → Flawed (trait_from g end h n ts) f → earlier f.1 (position_or position_of_token end ts) ≡ false
not_before g end [] h n f o e = end_place end f (as_trait (final n)) e
not_before g end (t ∷ ts) h n f o e =
    let next = position_or position_of_token end ts in
    let go = λ (m : ℕ) (k : State). trait_from g end m k ts in
    place_or_later t.pos next f
    (later_place t.pos next go f (λ m k q. not_before g end ts m k f o.1 q)
    (step_at_place t.pos h go f (step_at g true n t) e))
    (λ q. not_earlier t.pos next f.1 (first_after t.pos end ts o.0) q)

-- a flaw that is counted behind references

-- it stands where a list of references ends, or behind that
abbrev Reaches : Pos → Flaw × Pos → Option (List Token) → Type 0
Reaches end f o = reaches_end f.1 end o ≡ true

unless_ends : (p : Pos) (h : ℕ) (go : Going) (f : Flaw × Pos) (b : Bool) (o : Taking) → Counts f
    → Flawed (go_on (at_step p h (cond b o None)) go) f → b ≡ true
unless_ends p h go f true o c e = refl
unless_ends p h go f false o c e = not_syntax e c

-- a list of references ends at the token behind the first reference, or goes on with it
ends_counted : (p : Pos) (h : ℕ) (go : Going) (f : Flaw × Pos) (r : RawTrait) (x : Terminal) → Counts f
    → Flawed (go_on (at_step p h (after_trait_ref r First x)) go) f → ends_reference x ≡ true
ends_counted p h go f r Comma c e = refl
ends_counted p h go f r x c e = unless_ends p h go f (ends_reference x) (begin_item r x) c e

same_ends : {x y : Terminal} → Read x y → ends_reference y ≡ true → ends_reference x ≡ true
same_ends (same p) e = e
same_ends two_parts e = e

-- the first reference is closed
ref_counted : (end : Pos) (ts : List Token) (h : ℕ) (r : RawTrait) (f : Flaw × Pos) → Ordered end ts → Counts f
    → Flawed (trait_from true end h (AfterTraitRef r First) ts) f → Reaches end f (Some ts)
ref_counted end [] h r f o c e = not_ok e
ref_counted end (t ∷ ts) h r f o c e =
    both_true (ends_reference (known t)) _
    (same_ends (token_read t)
    (ends_counted t.pos h (λ m k. trait_from true end m k ts) f r (terminal_of true t) c e))
    (ap not (not_before true end (t ∷ ts) h (AfterTraitRef r First) f o e))

-- a token inside its parenthesis, of which the rest is known
inside_counted : {x y : Terminal} {a : Taking} (p end : Pos) (ts : List Token) (h : ℕ) (f : Flaw × Pos) → Read x y
    → Inside y a → Ordered end ts → Counts f
    → ((k : State) → OfFirst (inside_kind k) → Flawed (trait_from true end 0 k ts) f
    → Reaches end f (behind_group known 0 ts))
    → Flawed (go_on (at_step p h a) (λ m k. trait_from true end m k ts)) f
    → Reaches end f (or_further (open_depth x 0) ts (λ n. behind_group known n ts))
inside_counted p end ts h f rd refused o c rest e = not_syntax e c
inside_counted p end ts h f (same q) (closes {r} {b} first) o c rest e =
    ref_counted end ts 0 r f o c (subst (λ x. Flawed (trait_from true end 0 (AfterTraitRef r x) ts) f)
    (some_equal first) e)
inside_counted p end ts h f (same q) (goes_on {k = k} opens first) o c rest e =
    subst (λ x. Reaches end f (or_further x ts (λ n. behind_group known n ts))) (sym opens) (rest k first e)
inside_counted p end ts h f two_parts (goes_on {k = k} opens first) o c rest e = rest k first e

-- the tokens end inside it
end_counted : (end : Pos) (f : Flaw × Pos) (a : Option RawTrait) → a ≡ None → Counts f → Flawed (at_end end a) f → ⊥
end_counted end f None q c e = not_syntax e c
end_counted end f (Some r) q c e = none_some (sym q)

-- inside its parenthesis
group_counted : (end : Pos) (ts : List Token) (h : ℕ) (n : State) (f : Flaw × Pos) → OfFirst (inside_kind n)
    → Ordered end ts → Counts f → Flawed (trait_from true end h n ts) f → Reaches end f (behind_group known 0 ts)
group_counted end [] h n f first o c e = absurd (end_counted end f (as_trait (final n)) (unended n first) c e)
group_counted end (t ∷ ts) h n f first o c e =
    inside_counted t.pos end ts h f (token_read t) (step_inside n (terminal_of true t) first) o.1 c
    (λ k q d. group_counted end ts 0 k f q o.1 c d) e

-- the token behind its name
name_token : {x y : Terminal} (end : Pos) (t : Token) (ts : List Token) (h : ℕ) (r : RawTrait) (w : RawWord)
    (f : Flaw × Pos) → known t ≡ x → earlier f.1 t.pos ≡ false → Read x y → Ordered end ts → Counts f
    → Flawed (go_on (at_step t.pos h (after_ref_name r First w y)) (λ m k. trait_from true end m k ts)) f
    → Reaches end f (from_second known x t ts)
name_token end t ts h r w f q l (same {t = Open p} _) o c e =
    group_counted end ts 0 (NeedForm (Actual (open_ref r First w []))) f refl o c e
name_token end t ts h r w f q l (same {t = Generated} _) o c e = not_syntax e c
name_token end t ts h r w f q l (same {t = Partitioned} _) o c e = not_syntax e c
name_token end t ts h r w f q l (same {t = x} _) o c e =
    both_true (ends_reference (known t)) _
    (ap ends_reference q ∙ ends_counted t.pos h (λ m k. trait_from true end m k ts) f
    (close_ref (open_ref r First w [])) x c e) (ap not l)
name_token end t ts h r w f q l two_parts o c e =
    both_true (ends_reference (known t)) _ (ap ends_reference q) (ap not l)

-- its name is read
name_counted : (end : Pos) (ts : List Token) (h : ℕ) (r : RawTrait) (w : RawWord) (f : Flaw × Pos) → Ordered end ts
    → Counts f → Flawed (trait_from true end h (AfterRefName r First w) ts) f → Reaches end f (behind_word known ts)
name_counted end [] h r w f o c e = not_ok e
name_counted end (t ∷ ts) h r w f o c e =
    name_token end t ts h r w f refl (not_before true end (t ∷ ts) h (AfterRefName r First w) f o e)
    (token_read t) o.1 c e

first_token : {x y : Terminal} (p end : Pos) (ts : List Token) (h : ℕ) (r : RawTrait) (f : Flaw × Pos) → Read x y
    → Ordered end ts → Counts f
    → Flawed (go_on (at_step p h (step true (NeedRef r First) y)) (λ m k. trait_from true end m k ts)) f
    → Reaches end f (from_first known x ts)
first_token p end ts h r f (same {t = Word w} _) o c e = name_counted end ts 0 r w f o c e
first_token p end ts h r f (same _) o c e = not_syntax e c
first_token p end ts h r f two_parts o c e = not_syntax e c

-- directly behind `implies`
first_counted : (end : Pos) (ts : List Token) (h : ℕ) (r : RawTrait) (f : Flaw × Pos) → Ordered end ts → Counts f
    → Flawed (trait_from true end h (NeedRef r First) ts) f → Reaches end f (behind_first known ts)
first_counted end [] h r f o c e = not_syntax e c
first_counted end (t ∷ ts) h r f o c e = first_token t.pos end ts h r f (token_read t) o.1 c e

-- a flaw that is counted where references follow stands where an item follows too, or behind the first reference

-- the same flaw where an item follows, or behind the first reference of these tokens
abbrev Either : Pos → Flaw × Pos → Reading → List Token → Type 0
Either end f other ts = Flawed other f ⊎ Reaches end f (behind_first known ts)

mark_either : (p end : Pos) (ts : List Token) (k : State) (f : Flaw × Pos) (a : Result ℕ Flaw)
    → ((m : ℕ) → Flawed (trait_from true end m k ts) f
    → Either end f (trait_from false end m k ts) (implied_tokens ts))
    → Flawed (go_on (at_mark p k a) (λ m l. trait_from true end m l ts)) f
    → Either end f (go_on (at_mark p k a) (λ m l. trait_from false end m l ts)) (implied_tokens ts)
mark_either p end ts k f (Err flaw) rest e = inl e
mark_either p end ts k f (Ok m) rest e = rest m e

same_either : (p end : Pos) (ts : List Token) (h : ℕ) (f : Flaw × Pos) (o : Taking)
    → ((m : ℕ) (k : State) → Flawed (trait_from true end m k ts) f
    → Either end f (trait_from false end m k ts) (implied_tokens ts))
    → Flawed (go_on (at_step p h o) (λ m k. trait_from true end m k ts)) f
    → Either end f (go_on (at_step p h o) (λ m k. trait_from false end m k ts)) (implied_tokens ts)
same_either p end ts h f None rest e = inl e
same_either p end ts h f (Some taken) rest e =
    mark_either p end ts taken.1 f (admission h taken.0) (λ m. rest m taken.1) e

parts_either : {a b : Taking} (p end : Pos) (ts : List Token) (h : ℕ) (f : Flaw × Pos) → Parts a b → Ordered end ts
    → Counts f → Flawed (go_on (at_step p h b) (λ m k. trait_from true end m k ts)) f
    → Reaches end f (behind_first known ts)
parts_either p end ts h f no_part o c e = not_syntax e c
parts_either p end ts h f (a_part {r}) o c e = first_counted end ts 0 r f o c e

token_either : {x y : Terminal} (p end : Pos) (ts : List Token) (h : ℕ) (n : State) (f : Flaw × Pos) → Read x y
    → Ordered end ts → Counts f
    → ((m : ℕ) (k : State) → Flawed (trait_from true end m k ts) f
    → Either end f (trait_from false end m k ts) (implied_tokens ts))
    → Flawed (go_on (at_step p h (step true n y)) (λ m k. trait_from true end m k ts)) f
    → Either end f (go_on (at_step p h (step true n x)) (λ m k. trait_from false end m k ts))
    (cond (is_implies x) ts (implied_tokens ts))
token_either {x} p end ts h n f (same q) o c rest e =
    subst (λ b. Either end f (go_on (at_step p h (step true n x)) (λ m k. trait_from false end m k ts))
    (cond b ts (implied_tokens ts))) (sym q) (same_either p end ts h f (step true n x) rest e)
token_either p end ts h n f two_parts o c rest e = inr (parts_either p end ts h f (parts_in true n) o c e)

pub counted_either : (end : Pos) (ts : List Token) (h : ℕ) (n : State) (f : Flaw × Pos) → Ordered end ts
    → is_counted f.0 ≡ true → trait_from true end h n ts ≡ Err f
    → (trait_from false end h n ts ≡ Err f) ⊎ (reaches_end f.1 end (behind_first known (implied_tokens ts)) ≡ true)
counted_either end [] h n f o c e = inl e
counted_either end (t ∷ ts) h n f o c e =
    token_either t.pos end ts h n f (token_read t) o.1 c (λ m k q. counted_either end ts m k f o.1 c q) e
