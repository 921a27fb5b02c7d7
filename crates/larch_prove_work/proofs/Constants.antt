-- The constants of the boxes that the levels of a draft keep open are those that its builder has open.
use Rattle.std.specs.Prelude.{◌≡◌, ◌<◌, ◌≤◌, ◌+◌, ℕ, List, [], ◌∷◌, ◌++◌, map, reverse, take, length, get_or, refl}
use Rattle.std.specs.Prelude.{Option, None, Some}
use Rattle.std.specs.List.{AllZip}
use Rattle.std.specs.declared.alloc.Global.{Global}
use Rattle.std.specs.declared.rc.Rc.{Rc}
use Rattle.std.proofs.Common.{ap, ap₂, sym, ◌∙◌}
use Rattle.std.proofs.lemmas.Grind.{flat_map-append}
use Rattle.std.proofs.lemmas.List.{append_assoc, map-append, reverse-append, take_all, take_more}
use Rattle.larch_derive.specs.declared.open_box.OpenBox.{OpenBox}
use Rattle.larch_prove_settling.specs.ProveBoxesBoxLists.{box_list, boxes_with}
use Rattle.larch_prove_settling.specs.ProveDraftDraft.{Stands, below_in}
use Rattle.larch_prove_settling.specs.ProveDraftDraftDraft.{Draft}
use Rattle.larch_prove_settling.proofs.ProveInvariantHeld.{boxes_held}
use Rattle.larch_prove_settling.specs.ProveInvariantBook as kept
use Rattle.larch_prove_settling.specs.ProveInvariantBook.{Kept, SupposingBox, all_boxes}
use Rattle.larch_prove_settling.specs.ProveInvariantBook.{boxes_of, own_boxes, shared_boxes}
use Rattle.larch_prove_settling.specs.ProveInvariantHolding.{open_constants}
use Rattle.larch_prove_settling.specs.ProveLevelsLevel.{IsKept, RunsLikeAny}
use Rattle.larch_prove_settling.specs.ProveLevelsLevelLevel.{Level}
use Rattle.larch_prove_settling.specs.ProveLevelsLevelRunning.{Running}
use Rattle.larch_prove_settings.specs.ProveMeaningLevels.{Proof}
use Rattle.larch_prove_settings.specs.ProveMeaningPlans.{Subgoal}
use Rattle.larch_prove_work.specs.Opened.{boxes_in_level, constants_in_boxes, constants_in_levels, shared_in}
use Rattle.larch_store.specs.Numbered.{Numbered}
use Rattle.larch_term.specs.Operator.{PlainOperator}
use Rattle.larch_term.specs.declared.statement.Statement.{Statement}
use Rattle.larch_term.specs.declared.statement.Theory.{Theory}

-- ---- the boxes of levels

shared_kept : (r : Option Running) (o : Option kept.Running) (waiting : List Subgoal) → RunsLikeAny r o waiting
    → boxes_with (shared_boxes o) ≡ shared_in r
shared_kept None None waiting w = refl
shared_kept None (Some q) waiting w = absurd w
shared_kept (Some r) None waiting w = absurd w
shared_kept (Some r) (Some q) waiting w = w.shared

boxes_kept : (l : Level) (k : Kept) → IsKept l k → boxes_with (boxes_of k.book) ≡ boxes_in_level l
boxes_kept l k w =
    map-append (λ (x : SupposingBox). x.box) (own_boxes k.book) (shared_boxes k.book.running)
    ∙ ap₂ (λ (xs ys : List OpenBox). xs ++ ys)
    (map-append (λ (x : SupposingBox). x.box) k.book.entrance k.book.extras
    ∙ ap₂ (λ (xs ys : List OpenBox). xs ++ ys) w.0.entrance w.0.extras)
    (shared_kept l.running k.book.running k.level.remaining w.1)

boxes_together : (xs ys : List OpenBox)
    → constants_in_boxes (xs ++ ys) ≡ constants_in_boxes xs ++ constants_in_boxes ys
boxes_together xs ys = flat_map-append (λ (x : OpenBox). x.constants) xs ys

levels_kept : (ls : List Level) (ks : List Kept) → AllZip IsKept ls ks
    → constants_in_boxes (boxes_with (all_boxes ks)) ≡ constants_in_levels ls
levels_kept [] [] z = refl
levels_kept [] (k ∷ ks) z = absurd z
levels_kept (l ∷ ls) [] z = absurd z
levels_kept (l ∷ ls) (k ∷ ks) (w, z) =
    ap constants_in_boxes (map-append (λ (x : SupposingBox). x.box) (all_boxes ks) (boxes_of k.book))
    ∙ boxes_together (boxes_with (all_boxes ks)) (boxes_with (boxes_of k.book))
    ∙ ap₂ (λ (fs gs : List PlainOperator). fs ++ gs) (levels_kept ls ks z) (ap constants_in_boxes (boxes_kept l k w))

-- what is open where a draft stands
pub open_in_draft : (t : Theory) (s : Statement) (store : List Numbered) (d : Draft) (p : Proof) (k : Kept)
    (ks : List Kept) → Stands t s store d p k ks
    → open_constants d.builder ≡ constants_in_levels (d.current ∷ below_in d)
open_in_draft t s store d p k ks w =
    ap constants_in_boxes (boxes_held t s d.builder (k ∷ ks) w.holds.held).1.0
    ∙ levels_kept (d.current ∷ below_in d) (k ∷ ks) (w.current, w.below.kept)

-- ---- levels and boxes in turn

-- one level more is looked at
pub level_added : (levels : List (Rc Level Global)) (i : ℕ) (level : Rc Level Global)
    (old found more : List PlainOperator) → i < length levels → level ≡ get_or levels i level
    → found ≡ old ++ constants_in_levels (reverse (map (λ l. l.value) (take i levels)))
    → more ≡ found ++ constants_in_boxes (boxes_in_level level.value)
    → more ≡ old ++ constants_in_levels (reverse (map (λ l. l.value) (take (i + 1) levels)))
level_added levels i level old found more lt is so far =
    let before = map (λ (l : Rc Level Global). l.value) (take i levels) in
    let longer : map (λ (l : Rc Level Global). l.value) (take (i + 1) levels) ≡ before ++ level.value ∷ [] =
    ap (map (λ (l : Rc Level Global). l.value))
    (take_more levels i level lt ∙ ap (λ l. take i levels ++ l ∷ []) (sym is))
    ∙ map-append (λ (l : Rc Level Global). l.value) (take i levels) (level ∷ []) in
    far ∙ ap (λ fs. fs ++ constants_in_boxes (boxes_in_level level.value)) so
    ∙ append_assoc old (constants_in_levels (reverse before)) (constants_in_boxes (boxes_in_level level.value))
    ∙ ap (λ fs. old ++ fs)
    (sym (ap constants_in_levels (ap reverse longer ∙ reverse-append before (level.value ∷ []))))

-- one box more is looked at
pub box_added : (boxes : List OpenBox) (i : ℕ) (x : OpenBox) (old found more : List PlainOperator)
    → i < length boxes → x ≡ get_or boxes i x
    → found ≡ old ++ constants_in_boxes (take i boxes)
    → more ≡ found ++ constants_in_boxes (x ∷ [])
    → more ≡ old ++ constants_in_boxes (take (i + 1) boxes)
box_added boxes i x old found more lt is so far =
    let longer : take (i + 1) boxes ≡ take i boxes ++ x ∷ [] =
    take_more boxes i x lt ∙ ap (λ y. take i boxes ++ y ∷ []) (sym is) in
    far ∙ ap (λ fs. fs ++ constants_in_boxes (x ∷ [])) so
    ∙ append_assoc old (constants_in_boxes (take i boxes)) (constants_in_boxes (x ∷ []))
    ∙ ap (λ fs. old ++ fs) (sym (ap constants_in_boxes longer ∙ boxes_together (take i boxes) (x ∷ [])))

-- all are looked at
pub levels_added : (levels : List (Rc Level Global)) (i : ℕ) (old found : List PlainOperator) → length levels ≤ i
    → found ≡ old ++ constants_in_levels (reverse (map (λ l. l.value) (take i levels)))
    → found ≡ old ++ constants_in_levels (reverse (map (λ l. l.value) levels))
levels_added levels i old found le so =
    so
    ∙ ap (λ (ls : List (Rc Level Global)). old ++ constants_in_levels (reverse (map (λ l. l.value) ls)))
    (take_all i levels le)

pub boxes_added : (boxes : List OpenBox) (i : ℕ) (old found : List PlainOperator) → length boxes ≤ i
    → found ≡ old ++ constants_in_boxes (take i boxes) → found ≡ old ++ constants_in_boxes boxes
boxes_added boxes i old found le so = so ∙ ap (λ xs. old ++ constants_in_boxes xs) (take_all i boxes le)

-- a level's boxes one after the other: that of its entrance, those for constants, and that of its method
three_kinds : (old one two more : List PlainOperator) (xs ys zs : List OpenBox)
    → one ≡ old ++ constants_in_boxes xs → two ≡ one ++ constants_in_boxes ys
    → more ≡ two ++ constants_in_boxes zs
    → more ≡ old ++ constants_in_boxes ((xs ++ ys) ++ zs)
three_kinds old one two more xs ys zs e f g =
    let us = constants_in_boxes xs in let vs = constants_in_boxes ys in let ws = constants_in_boxes zs in
    g ∙ ap (λ fs. fs ++ ws) (f ∙ ap (λ fs. fs ++ vs) e)
    ∙ (ap (λ fs. fs ++ ws) (append_assoc old us vs) ∙ append_assoc old (us ++ vs) ws)
    ∙ ap (λ fs. old ++ fs)
    (sym (boxes_together (xs ++ ys) zs ∙ ap (λ fs. fs ++ ws) (boxes_together xs ys)))

pub level_done : (level : Level) (old one two more : List PlainOperator) (r : Option Running) → level.running ≡ r
    → one ≡ old ++ constants_in_boxes (box_list level.entrance)
    → two ≡ one ++ constants_in_boxes level.extras
    → more ≡ two ++ constants_in_boxes (shared_in r)
    → more ≡ old ++ constants_in_boxes (boxes_in_level level)
level_done level old one two more r is e f g =
    three_kinds old one two more (box_list level.entrance) level.extras (shared_in level.running) e f
    (g ∙ ap (λ o. two ++ constants_in_boxes (shared_in o)) (sym is))
