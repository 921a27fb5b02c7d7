-- Lists of terms and arguments.
use Rattle.std.proofs.Common.{◌≡◌, List, [], ◌∷◌, refl, sym, ◌∙◌, ap}
use Rattle.larch_certificate.specs.Coded.{CodedTree, CodedForest, coded_app, no_terms, term_then, coded_forest_of}
use Rattle.larch_certificate.specs.Coded.{coded_list_of}
use Rattle.larch_certificate.specs.declared.symbol.Symbol.{Symbol}

pub coded_list_of_forest_of : (ts : List CodedTree) → coded_list_of (coded_forest_of ts) ≡ ts
coded_list_of_forest_of [] = refl
coded_list_of_forest_of (t ∷ ts) = ap (λ us. t ∷ us) (coded_list_of_forest_of ts)

pub coded_forest_of_list_of : (ts : CodedForest) → coded_forest_of (coded_list_of ts) ≡ ts
coded_forest_of_list_of no_terms = refl
coded_forest_of_list_of (term_then t ts) = ap (λ us. term_then t us) (coded_forest_of_list_of ts)

pub coded_forest_of_inj : (ts us : List CodedTree) → coded_forest_of ts ≡ coded_forest_of us → ts ≡ us
coded_forest_of_inj ts us e = sym (coded_list_of_forest_of ts) ∙ ap coded_list_of e ∙ coded_list_of_forest_of us

-- equal applications have one symbol and the same arguments
pub same_coded_parts : (f g : Symbol) (ts us : List CodedTree)
    → coded_app f (coded_forest_of ts) ≡ coded_app g (coded_forest_of us) → (f ≡ g) × (ts ≡ us)
same_coded_parts f g ts us e =
    let a : f ≡ g = cc in
    let b : coded_forest_of ts ≡ coded_forest_of us = cc in
    (a, coded_forest_of_inj ts us b)
