-- What is migrated is read again.
use Rattle.std.proofs.Common.{◌≡◌, refl, ap, subst, ℕ, ◌<◌, ◌^◌, Bool, true, List, length, Result, Ok, Err}
use Rattle.larch_certificate.specs.declared.line.Line.{Line}
use Rattle.larch_certificate_migrate.specs.Migrated.{second_text, migrated_of}
use Rattle.larch_certificate_text.proofs.CertificateLaws.{certificate_again, certificate_back}
use Rattle.larch_certificate_text.specs.CertificateText.{certificate_text, read_certificate}

pub read_again : (text : List ℕ) (v : Bool) (lines : List Line) → length text < 2 ^ 63
    → read_certificate true text ≡ Ok (v, lines)
    → read_certificate true (certificate_text true lines) ≡ Ok (true, lines)
read_again text v lines short e = certificate_again true true lines refl (certificate_back true text v lines short e).1

abbrev Texts : Result (List ℕ) ℕ → Result (List ℕ) ℕ → Type 0
Texts x y = x ≡ y

ok_is : (x y : List ℕ) → Texts (Ok x) (Ok y) → x ≡ y
ok_is x y e = cc

by_read : (text written : List ℕ) → length text < 2 ^ 63 → (r : Result (Bool × List Line) ℕ)
    → read_certificate true text ≡ r → migrated_of r ≡ Ok written → second_text written ≡ Ok written
by_read text written short (Ok (v, lines)) e m =
    let same : certificate_text true lines ≡ written = ok_is (certificate_text true lines) written m in
    subst (λ t. second_text t ≡ Ok t) same (ap migrated_of (read_again text v lines short e))
by_read text written short (Err n) e m = absurd (cc)

pub migrated_again : (text written : List ℕ) → length text < 2 ^ 63 → second_text text ≡ Ok written
    → second_text written ≡ Ok written
migrated_again text written short m = by_read text written short (read_certificate true text) refl m
