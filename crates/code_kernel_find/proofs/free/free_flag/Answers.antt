-- `code_kernel_find::free::free_flag` meets its contract: the chain finds the flag that the definition counts to.
use Prim.Native.Nat.{ℕ}
use mathlib.Core.Path.{◌≡◌, refl, sym, ◌∙◌}
use mathlib.Core.Bool.{not}
use borrow.Author.Rules.{rules}
use Rattle.std.proofs.Common.{tests}
use Rattle.std.proofs.lemmas.Iterator.{YieldsList-from_range}
use Rattle.std.proofs.lemmas.Iterator.Adapters.{option_map_id}
use Rattle.std.proofs.lemmas.Iterator.Search.{find_from_yields_List}
use Rattle.std.specs.List.{find, range_with_len}
use Rattle.std.specs.Option.{option_map}
use Rattle.base_bits.specs.Words.{bit_at}
use Rattle.spec_kernel.specs.Sizes.{flag_count}
use Rattle.code_kernel_find.proofs.Lowest.{find_lowest}
use Rattle.code_kernel_find.proofs.free.free_flag.Goals as goal

pub returns : goal.returns
returns c =
    let clear = λ (i : ℕ). not (bit_at c.args.flags i) in
    let e : option_map (λ i. i) c.find.result ≡ find clear (range_with_len 0 flag_count) =
    find_from_yields_List clear _ _ c.find.result c.find.ensures.ran (YieldsList-from_range 0 flag_count flag_count refl refl) (λ x b q k. search (rules, tests)) in
    c.unwrap_or.ensures ∙ rw (sym (option_map_id _) ∙ e) (find_lowest c.args.flags 0 flag_count)
