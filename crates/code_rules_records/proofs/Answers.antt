-- What a callee's answer b says of a, which it is, where a test of `!b` held or failed.
use mathlib.Core.Path.{◌≡◌, sym, ◌∙◌}
use mathlib.Core.Bool.{Bool, true, false}

module _ {a b : Bool} (e : b ≡ a) where
  pub refused : b ≡ false → a ≡ false
  refused h = sym e ∙ h

  pub passed : b ≡ true → a ≡ true
  passed h = sym e ∙ h
