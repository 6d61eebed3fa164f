-- The test passes exactly where the rules hold.
use mathlib.Core.Path.{◌≡◌}
use mathlib.Core.Bool.{true}
use Rattle.spec_kernel.specs.declared.records.Kernel.{Kernel}
use Rattle.spec_rules.specs.Rules.{Sized, Rules}
use Rattle.spec_rules.specs.Tests.{keeps_rules}
use Rattle.spec_rules.proofs.Whole.{whole_exactly}
use Rattle.spec_rules.proofs.ToRules.{rules_of}
use Rattle.spec_rules.proofs.FromRules.{whole_of}

pub rules_mean : (k : Kernel) → Sized k → keeps_rules k ≡ true → Rules k
rules_mean k Z h = rules_of k Z ((whole_exactly k Z).0 h)

pub rules_hold : (k : Kernel) → Sized k → Rules k → keeps_rules k ≡ true
rules_hold k Z R = (whole_exactly k Z).1 (whole_of k Z R)
