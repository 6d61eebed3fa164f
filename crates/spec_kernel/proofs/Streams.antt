-- The next message: in a table in the order of the streams, a thread's first message on a masked channel is the one that a pend takes.
use Prim.Native.Nat.{ℕ, zero, suc, ◌+◌, ◌≤◌, ◌<◌}
use mathlib.Core.Path.{◌≡◌, refl, sym}
use mathlib.Core.Bool.{Bool, true, cond, and-true, and-false, and-eq-true_iff}
use mathlib.Core.List.{List, [], ◌∷◌}
use native.Mathlib.Omega.{arith}
use lib.Dec.{eqb, ltb}
use lib.ListN.{get_or}
use borrow.Author.Tests.{eqb-true, eqb-false, ltb-true}
use borrow.Table.Steps.{cases}
use Rattle.base_queue.specs.Lists.{keep, count, first_of, Ordered}
use Rattle.base_queue.specs.Queues.{items}
use Rattle.base_queue.proofs.Counts.{count_head, kept, keep_keep, keep_same}
use Rattle.base_queue.proofs.Orders.{ordered_low, ordered_keep, ordered_mono}
use Rattle.spec_kernel.specs.declared.records.Message.{Message}
use Rattle.spec_kernel.specs.declared.records.Kernel.{Kernel}
use Rattle.spec_kernel.specs.Sizes.{channel_count}
use Rattle.spec_kernel.specs.Records.{no_message, message}
use Rattle.spec_kernel.specs.Conditions.{masks}
use Rattle.spec_kernel.specs.Places.{stream_of, channel}
use Rattle.spec_kernel.specs.Channels.{masked_from, lowest_masked, is_for, first_for}

-- a list without members
nobody : (l : List ℕ) → ((u : ℕ) → 0 < count u l → ⊥) → l ≡ []
nobody [] h = refl
nobody (x ∷ l) h = absurd (h x (count_head x l))

-- message m is thread t's to take
abbrev pub is_mine : List Message → ℕ → ℕ → ℕ → Bool
is_mine messages t mask m = is_for t mask (get_or messages m no_message)

module _ (k : Kernel) (t mask : ℕ) where
  -- the channel that message m is on
  abbrev number : ℕ → ℕ
  number m = (message k m).channel

  -- it is c
  abbrev is_on : ℕ → ℕ → Bool
  is_on c m = eqb (number m) c

  -- what thread t may take, first to last
  abbrev mine : List ℕ
  mine = keep (is_mine k.messages t mask) (items k.posted)

  -- each is t's, on a masked channel
  mine_means : (m : ℕ) → 0 < count m mine → ((message k m).owner ≡ t) × (masks mask (number m) ≡ true)
  mine_means m c =
      let (o, b) =
      (and-eq-true_iff (eqb (message k m).owner t) (masks mask (number m))).0
      (kept (is_mine k.messages t mask) (items k.posted) c).0 in
      (eqb-true (message k m).owner t o, b)

  -- and t's messages on a masked channel are those of them on it
  channel_mine : (c : ℕ) → masks mask c ≡ true → channel k t c ≡ keep (is_on c) mine
  channel_mine c e =
      sym (rw keep_keep
      (keep_same (items k.posted) λ m _.
      cases (is_on c m)
      (λ z. let y : masks mask (number m) ≡ true = rw (eqb-true (number m) c z) e in simp (z, y, and-true))
      (λ z. simp (z, and-false))))

  -- none of them is on channel c: the channel is not masked, or empty
  masked_skip : (c : ℕ) → ((m : ℕ) → 0 < count m mine → number m ≡ c → ⊥) → cond (masks mask c) (channel k t c) [] ≡ []
  masked_skip c h =
      cases (masks mask c)
      (λ e. rw (e, channel_mine c e)
      (nobody (keep (is_on c) mine) λ m p.
      let (z, here) = kept (is_on c) mine p in h m here (eqb-true (number m) c z)))
      (λ e. rw e)

  -- none of them is on one of the n channels from c on
  masked_none : (c n : ℕ) → ((m : ℕ) → 0 < count m mine → c + n ≤ number m) → masked_from k t mask c n ≡ []
  unfolding masked_from
  masked_none c zero h = refl
  masked_none c (suc n) h =
      rw (masked_skip c (λ m p z. omega (arith, h m p)), masked_none (suc c) n (λ m p. omega (arith, h m p)))

  -- the first of them is the first on the n channels from c on, where its own is among those and none is lower
  masked_first : (x : ℕ) (l : List ℕ) → mine ≡ x ∷ l → ((m : ℕ) → 0 < count m mine → number x ≤ number m)
      → (c n : ℕ) → c ≤ number x → number x < c + n → first_of (masked_from k t mask c n) ≡ x
  unfolding masked_from
  masked_first x l e low c zero a b = absurd (omega arith)
  masked_first x l e low c (suc n) a b =
      cases (eqb (number x) c)
      (λ z. let y : masks mask c ≡ true = rw (← eqb-true (number x) c z) (mine_means x (rw e (count_head x l))).1 in
      rw (y, channel_mine c y, e, z))
      (λ z. let ne = eqb-false (number x) c z in
      rw (masked_skip c (λ m p q. omega (arith, low m p, ne)))
      (masked_first x l e low (suc c) n (omega (arith, ne)) (omega arith)))

  module _ (o : Ordered (λ m. stream_of (message k m)) (items k.posted))
      (few : (m : ℕ) → 0 < count m (items k.posted) → (message k m).channel ≤ channel_count) where
    -- of one owner, they are in the order of their channels
    by_number : Ordered number mine
    unfolding stream_of
    by_number =
        ordered_mono mine (λ u v c d b. omega (arith, (mine_means u c).0, (mine_means v d).0))
        (ordered_keep (λ m. stream_of (message k m)) (is_mine k.messages t mask) (items k.posted) o)

    -- each is on one of the channels 1 to 15
    in_range : (m : ℕ) → 0 < count m mine → (1 ≤ number m) × (number m ≤ channel_count)
    in_range m c = (
      ltb-true 0 (number m) ((and-eq-true_iff (ltb 0 (number m)) _).0 (mine_means m c).1).0,
      few m (kept (is_mine k.messages t mask) (items k.posted) c).1,
    )

    -- Of the masked channels the lowest that has any, and there the oldest [01, calls: Message 3].
    pub next_lowest : first_for k.messages k.posted t mask ≡ lowest_masked k t mask
    unfolding first_for lowest_masked
    next_lowest = go mine refl
      where
        go : (l : List ℕ) → mine ≡ l → first_of mine ≡ first_of (masked_from k t mask 1 channel_count)
        go [] e = rw (e, masked_none 1 channel_count (λ m c. absurd (omega (arith, rw e at c))))
        go (x ∷ l) e =
            let after : Ordered number (x ∷ l) = rw e at by_number in
            let low : (m : ℕ) → 0 < count m mine → number x ≤ number m =
            λ m c. ordered_low number {low = number x} (x ∷ l) (omega arith, after.1) m (rw e at c) in
            let (a, b) = in_range x (rw e (count_head x l)) in
            rw e (sym (masked_first x l e low 1 channel_count a (omega arith)))
