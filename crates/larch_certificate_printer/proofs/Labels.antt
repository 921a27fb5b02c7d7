-- Names of parts, and the number in front of a line.
use Rattle.std.proofs.Common.{◌≡◌, ℕ, ◌+◌, ◌<◌, Bool, true, false, List, [], ◌∷◌, ◌++◌, length, Some, None, refl, sym}
use Rattle.std.proofs.Common.{◌∙◌, ap, arith, append_assoc}
use Rattle.std.specs.Prelude.{decimal}
use Rattle.std.specs.List.{join_with_byte}
use Rattle.larch_certificate.specs.declared.line.Line.{Line}
use Rattle.larch_certificate.specs.declared.line.Line.TheVariants as rule
use Rattle.larch_certificate_text.specs.LineText.{box_parts, fields_by, line_text, rule_fields}
use Rattle.larch_certificate_text.specs.ListText.{named_by, label_by}
use Rattle.larch_certificate_text.specs.declared.here.Here.{Here}

pub named_label : (b : Bool) (label text : List ℕ) → named_by b label text ≡ label_by b label ++ text
named_label false label text = refl
named_label true label text = sym (append_assoc label (61 ∷ []) text)

join_more : (c : ℕ) (x : List ℕ) (ys : List (List ℕ)) → 0 < length ys
    → join_with_byte c (x ∷ ys) ≡ x ++ (c ∷ join_with_byte c ys)
join_more c x [] l = absurd (omega (arith, l))
join_more c x (y ∷ ys) l = refl

rule_fields_some : (h : Here) (r : Line) → 0 < length (rule_fields h r)
rule_fields_some h (rule.Axiom k) = omega arith
rule_fields_some h (rule.Hyp b k) = omega arith
rule_fields_some h (rule.Row k None) = omega arith
rule_fields_some h (rule.Row k (Some s)) = omega arith
rule_fields_some h (rule.Refl t) = omega arith
rule_fields_some h (rule.Sym m) = omega arith
rule_fields_some h (rule.Inst m bs) = omega arith
rule_fields_some h (rule.Repl m p l) = omega arith
rule_fields_some h (rule.Equal m) = omega arith
rule_fields_some h (rule.BoxLine ss es) = omega arith
rule_fields_some h rule.Done = omega arith
rule_fields_some h (rule.Fresh b vs) = omega arith
rule_fields_some h (rule.Cases b c) = omega arith
rule_fields_some h (rule.Induct m x e bs) = omega arith
rule_fields_some h (rule.Observe m e ls) = omega arith
rule_fields_some h (rule.Generated b s fs) = omega arith
rule_fields_some h (rule.Partitioned b s fs) = omega arith

pub numbered_line : (h : Here) (r : Line) → h.relative ≡ false
    → line_text h r ≡ decimal h.line ++ (32 ∷ join_with_byte 32 (rule_fields h r))
numbered_line h r n =
    ap (λ b. join_with_byte 32 (fields_by b h.line (rule_fields h r))) n
    ∙ join_more 32 (decimal h.line) (rule_fields h r) (rule_fields_some h r)

pub named_line : (h : Here) (r : Line) → h.relative ≡ true → line_text h r ≡ join_with_byte 32 (rule_fields h r)
named_line h r n = ap (λ b. join_with_byte 32 (fields_by b h.line (rule_fields h r))) n
