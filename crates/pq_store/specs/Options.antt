-- Equal options are the same where equal items are.
use Rattle.std.specs.Prelude.{◌≡◌, Bool, true, Option, None, Some}
use mathlib.Core.Path.{ap, refl, sym}
use Rattle.std.specs.Option.{option_eq}
use Rattle.std.proofs.lemmas.Bool.{true≢false}

-- equal options are the same
pub same_option : {A : Type 0} (E : A → A → Bool) → ((a b : A) → E a b ≡ true → a ≡ b) → (a b : Option A) → option_eq E a b ≡ true → a ≡ b
same_option E same None None equal = refl
same_option E same None (Some b) equal = absurd (true≢false (sym equal))
same_option E same (Some a) None equal = absurd (true≢false (sym equal))
same_option E same (Some a) (Some b) equal = ap Some (same a b equal)
