-- Rule sets as contracts see them.
use Rattle.std.specs.Prelude.{◌≡◌, ◌++◌, ◌∷◌, [], ℕ, not, List, All, Option, Some, None, length, take, refl}
use Rattle.std.proofs.Common.{ap, sym, subst, ◌∙◌}
use Rattle.std.proofs.Math.Seq.{take-append_seam}
use Rattle.std.proofs.lemmas.List.Elements.{All-filter, All-nil, All-push, All-weaker}
use Rattle.larch_base.specs.declared.fact_name.FactName.{FactName}
use Rattle.larch_derive.specs.Predicates.{Extends, Known, Grows as GrowsBuilder, HasEquation}
use Rattle.larch_derive.specs.declared.builder.Builder.{Builder}
use Rattle.larch_derive.proofs.Growth.{extends_grows, grown_said}
use Rattle.larch_rewrite_step.specs.DeriveLinesWay.{Leads}
use Rattle.larch_rewrite_meaning.specs.Sides.{Sides}
use Rattle.larch_store.specs.Numbered.{Numbered, term_of}
use Rattle.larch_store.specs.Stored.{Grows}
use Rattle.larch_term.specs.Tree.{Tree}
use Rattle.larch_rewrite.specs.Kept.{IsForm, IsFront, IsLed, IsOfStore}
use Rattle.larch_rewrite.specs.RuleSet.{AreSaid, BelongsTo, IsSaid, PlainRule, RuleSet, Serves, has_name, without}
use Rattle.larch_rewrite.specs.Ways.{MayBegin}
use Rattle.larch_rewrite.specs.declared.kept.KeptForm.{KeptForm}
use Rattle.larch_rewrite.proofs.Stored.{kept_stay}

-- ---- nothing is kept

pub none_kept : (kept : List KeptForm) → take 0 kept ≡ []
none_kept [] = refl
none_kept (k ∷ ks) = refl

pub none_are_forms : (rules : List Sides) (kept : List KeptForm) → kept ≡ [] → All (IsForm rules) kept
none_are_forms rules kept e = subst (All (IsForm rules)) (sym e) (All-nil (IsForm rules))

pub belongs_alone : (s : List Numbered) (set : RuleSet) → set.kept ≡ [] → BelongsTo s set
belongs_alone s set e = subst (All (IsOfStore s)) (sym e) (All-nil (IsOfStore s))

pub serves_alone : (s : List Numbered) (b : Builder) (set : RuleSet) → set.kept ≡ [] → AreSaid b set.rules
    → Serves s b set
serves_alone s b set e h = record {
  said = h;
  belongs = belongs_alone s set e;
  led = subst (All (IsLed b)) (sym e) (All-nil (IsLed b));
}

pub serves_empty : (s : List Numbered) (b : Builder) (set : RuleSet) → set.kept ≡ [] → set.rules ≡ [] → Serves s b set
serves_empty s b set e q = serves_alone s b set e (subst (AreSaid b) (sym q) (All-nil (IsSaid b)))

-- a rule behind the others, and what has another name
pub serves_with : (s u : List Numbered) (b : Builder) (old new : RuleSet) (r : PlainRule) → new.kept ≡ []
    → new.rules ≡ old.rules ++ r ∷ [] → Serves s b old → HasEquation b r.line r.left r.right → Serves u b new
serves_with s u b old new r e q h k =
    serves_alone u b new e (subst (AreSaid b) (sym q) (All-push (IsSaid b) old.rules r h.said k))

-- a rule of others behind these
pub serves_shared : (s : List Numbered) (b : Builder) (old new : RuleSet) (r : PlainRule) → new.kept ≡ []
    → new.rules ≡ old.rules ++ r ∷ [] → AreSaid b old.rules → IsSaid b r → Serves s b new
serves_shared s b old new r e q h k =
    serves_alone s b new e (subst (AreSaid b) (sym q) (All-push (IsSaid b) old.rules r h k))

serves_others : (s : List Numbered) (b : Builder) (old new : RuleSet) (name : FactName) → new.kept ≡ []
    → new.rules ≡ without name old.rules → Serves s b old → Serves s b new
serves_others s b old new name e q h =
    serves_alone s b new e
    (subst (AreSaid b) (sym q) (All-filter (λ r. not (has_name name r)) (IsSaid b) old.rules h.said))

abbrev set_of : List PlainRule → List KeptForm → RuleSet
set_of rules kept = record { rules = rules; kept = kept }

pub serves_copied : (s : List Numbered) (b : Builder) (set : RuleSet) (rules more : List PlainRule)
    (kept left : List KeptForm) → record { rules = rules; kept = kept } ≡ set → more ≡ rules → left ≡ []
    → AreSaid b set.rules → Serves s b (record { rules = more; kept = left })
serves_copied s b set rules more kept left e q n h =
    serves_alone s b (set_of more left) n (subst (AreSaid b) (sym (q ∙ ap (λ (t : RuleSet). t.rules) e)) h)

pub serves_removed : (s : List Numbered) (b : Builder) (name : FactName) (set : RuleSet)
    (rules others : List PlainRule) (kept left : List KeptForm) → record { rules = rules; kept = kept } ≡ set
    → others ≡ without name rules → left ≡ take 0 kept → Serves s b set
    → Serves s b (record { rules = others; kept = left })
serves_removed s b name set rules others kept left e q n h =
    serves_others s b set (set_of others left) name (n ∙ none_kept kept)
    (q ∙ ap (λ (t : RuleSet). without name t.rules) e) h

-- ---- store and builder grow

leads_grown : (a b : Builder) (way : Option ℕ) (s t : Tree) → GrowsBuilder a b → Leads a way s t → Leads b way s t
leads_grown a b None s t x h = h
leads_grown a b (Some n) s t x h = grown_said a b n _ x h

pub belongs_on : (s u : List Numbered) (set : RuleSet) → Grows s u → BelongsTo s set → BelongsTo u set
belongs_on s u set g h = kept_stay s u set.kept g h

pub serving_belongs : (s : List Numbered) (b : Builder) (set : RuleSet) → Serves s b set → BelongsTo s set
serving_belongs s b set h = h.belongs

pub belongs_still : (s u : List Numbered) (old new : RuleSet) → new ≡ old → Grows s u → BelongsTo s old
    → BelongsTo u new
belongs_still s u old new e g h = subst (BelongsTo u) (sym e) (kept_stay s u old.kept g h)

pub serves_on : (s u : List Numbered) (a b : Builder) (set : RuleSet) → Grows s u → GrowsBuilder a b → Serves s a set
    → Serves u b set
serves_on s u a b set g x h = record {
  said = All-weaker (IsSaid a) (IsSaid b) (λ r p. grown_said a b r.line _ x p) set.rules h.said;
  belongs = kept_stay s u set.kept g h.belongs;
  led = All-weaker (IsLed a) (IsLed b) (λ k p. leads_grown a b k.way (term_of k.start) (term_of k.form) x p)
      set.kept h.led;
}

pub serves_still : (s u : List Numbered) (b : Builder) (old new : RuleSet) → new ≡ old → Grows s u → Serves s b old
    → Serves u b new
serves_still s u b old new e g h = subst (Serves u b) (sym e) record {
  said = h.said;
  belongs = kept_stay s u old.kept g h.belongs;
  led = h.led;
}

pub serves_later : (s u : List Numbered) (a b : Builder) (old new : RuleSet) → new ≡ old → Grows s u → Extends a b
    → Serves s a old → Serves u b new
serves_later s u a b old new e g x h =
    subst (Serves u b) (sym e) (serves_on s u a b old g (extends_grows a b x) h)

-- ---- a normal form

-- what is kept, without what was kept behind it
pub front_cut : (kept mid : List KeptForm) → IsFront kept mid → take (length kept) mid ≡ kept
front_cut kept mid (xs, e) = ap (take (length kept)) e ∙ take-append_seam kept xs

-- where rules serve the machine may begin
pub may_begin : (s : List Numbered) (b : Builder) (set : RuleSet) (rules : List PlainRule) (kept : List KeptForm)
    (t : Tree) → record { rules = rules; kept = kept } ≡ set → Known b t → Serves s b set → MayBegin b rules kept t
may_begin s b set rules kept t e k h =
    let g : Serves s b (set_of rules kept) = subst (Serves s b) (sym e) h in (k, g.said, g.led)

-- they still serve, with what is kept from then on
pub went_on : (s u : List Numbered) (a b : Builder) (set : RuleSet) (rules : List PlainRule)
    (kept more : List KeptForm) → record { rules = rules; kept = kept } ≡ set → Extends a b → Serves s a set
    → All (IsOfStore u) more → All (IsLed b) more → Serves u b (record { rules = rules; kept = more })
went_on s u a b set rules kept more e x h m l =
    let g : Serves s a (set_of rules kept) = subst (Serves s a) (sym e) h in
    record {
      said = All-weaker (IsSaid a) (IsSaid b) (λ r p. grown_said a b r.line _ (extends_grows a b x) p) rules g.said;
      belongs = m;
      led = l;
    }

-- what was kept meanwhile is forgotten
cut_back : (kept mid cut : List KeptForm) (n : ℕ) → cut ≡ take n mid → n ≡ length kept → IsFront kept mid → cut ≡ kept
cut_back kept mid cut n e l f = e ∙ ap (λ k. take k mid) l ∙ front_cut kept mid f

pub same_set : (set : RuleSet) (rules : List PlainRule) (kept mid cut : List KeptForm) (n : ℕ)
    → record { rules = rules; kept = kept } ≡ set → cut ≡ take n mid → n ≡ length kept → IsFront kept mid
    → record { rules = rules; kept = cut } ≡ set
same_set set rules kept mid cut n e q l f = ap (set_of rules) (cut_back kept mid cut n q l f) ∙ e
