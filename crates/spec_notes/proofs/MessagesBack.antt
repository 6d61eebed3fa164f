-- The messages' section, read back: their records, and their places in the channels.
use Prim.Native.Nat.{ℕ, suc, ◌<◌}
use mathlib.Core.Path.{◌≡◌, refl, sym, ◌∙◌}
use mathlib.Core.Bool.{Bool, false}
use mathlib.Core.List.{List, ◌++◌}
use native.Mathlib.Nat.{le_refl}
use native.Mathlib.Omega.{arith}
use lib.ListN.{set, replicate}
use borrow.Author.Tests.{not-false}
use Rattle.base_queue.specs.Queues.{capacity, items}
use Rattle.base_queue.specs.Tables.{old_place}
use Rattle.base_queue.proofs.Queues.{length_items}
use Rattle.base_rows.specs.Entries.{own_in, read_entries}
use Rattle.base_rows.proofs.EntriesRead.{id_back}
use Rattle.spec_kernel.specs.declared.records.Kernel.{Kernel}
use Rattle.spec_kernel.specs.Sizes.{message_count}
use Rattle.spec_kernel.specs.Records.{message, no_message}
use Rattle.spec_kernel.specs.Places.{is_queued}
use Rattle.spec_moves.specs.Standing.{posts_of}
use Rattle.spec_rules.specs.Rules.{Sized, Rules}
use Rattle.spec_rules.proofs.FromRules.{filed}
use Rattle.spec_calls.specs.declared.call.Call.{Call}
use Rattle.spec_notes.specs.Rows.{message_row, message_widths}
use Rattle.spec_notes.specs.Touched.{touched_message}
use Rattle.spec_notes.specs.Predicted.{predicted_message}
use Rattle.spec_notes.specs.Sections.{message_entry, messages_section}
use Rattle.spec_notes.specs.Back.{put_back_all, Filing, message_read, messages_before}
use Rattle.spec_notes.specs.Within.{Within}
use Rattle.spec_notes.specs.LeftAlone.{LeftAlone}
use Rattle.spec_notes.proofs.RowsBack.{Fit, none, field, entry_row, entry_rest}
use Rattle.spec_notes.proofs.RecordsBack.{flag_below, message_back_lem, same_message_lem}
use Rattle.spec_notes.proofs.EntriesBack.{each, read_part, records_back}
use Rattle.spec_notes.proofs.TablesBack.{place_below, table_back}

module _ (k : Kernel) (c : Call) (k' : Kernel) where
  abbrev touched : ℕ → Bool
  touched = touched_message k c k'

  abbrev entry : ℕ → List ℕ
  entry = message_entry c k'.runner (posts_of k) k'.messages

  -- what an entry gives
  abbrev step : ℕ → Filing → Filing
  step m a =
      record {
        messages = set a.messages m (message k m);
        out = set a.out m 1;
        at = set a.at (old_place m (items k.posted)) m;
      }

  module _ (Z : Sized k) (W : Within k) where
    fits : (m : ℕ)
        → Fit message_widths (message_row (message k m) (old_place m (items k.posted))) (predicted_message c k'.runner (message k' m))
    unfolding predicted_message
    fits m =
        field (λ _. flag_below (message k m).live)
        (field (λ _. W.owner m)
        (field (λ _. W.sender m)
        (field (λ _. W.kind m)
        (field (λ _. W.size m)
        (field (λ _. W.address m)
        (field (λ _. W.channel m)
        (field (λ _. place_below m (items k.posted) (length_items k.posted Z.posted)) none)))))))

    next : (n m : ℕ) (rest : List ℕ) (a : Filing) → m < 64
        → read_entries (own_in message_widths) (message_read c k'.runner k'.messages) (suc n) (entry m ++ rest) a
        ≡ read_entries (own_in message_widths) (message_read c k'.runner k'.messages) n rest (step m a)
    unfolding read_entries message_read
    next n m rest a b =
        rw (id_back m 0 0 _ b, entry_rest m 0 0 rest (fits m), entry_row m 0 0 rest (fits m), message_back_lem (message k m))

    -- what the section gives, and a part of it
    abbrev read : Filing
    read = messages_before c k'.runner k'.messages (messages_section k c k')

    part : {B : Type 0} (f : Filing → B) (put : ℕ → B → B) → ((m : ℕ) (a : Filing) → f (step m a) ≡ put m (f a))
        → f read ≡ each touched put 0 message_count
        (f (record { messages = k'.messages; out = replicate capacity 0; at = replicate capacity 255 }))
    unfolding messages_before messages_section touched_message
    part f put h =
        read_part (own_in message_widths) (message_read c k'.runner k'.messages) touched entry step (λ _. refl) next f put h
        _ message_count _ (omega arith) (le_refl _)

    module _ (Z' : Sized k') where
      untouched : (m : ℕ) → touched m ≡ false → message k' m ≡ message k m
      unfolding touched_message
      untouched m h = sym (same_message_lem (message k m) (message k' m) (not-false _ h))

      pub messages_back : read.messages ≡ k.messages
      messages_back =
          part (λ a. a.messages) (λ m l. set l m (message k m)) (λ _ _. refl)
          ∙ records_back touched no_message message_count k.messages k'.messages Z.messages Z'.messages (λ m _ e. untouched m e)

      pub posted_back : Rules k → Rules k' → LeftAlone k c k' → put_back_all read.out read.at k'.posted ≡ k.posted
      posted_back R R' F =
          let S = filed k Z R in
          table_back is_queued no_message refl message_count (omega arith) touched k.messages k'.messages k.posted k'.posted
          Z.messages
          Z'.messages
          S.tidy S.placed (filed k' Z' R').placed F.posted (part (λ a. a.out) (λ m l. set l m 1) (λ _ _. refl))
          (part (λ a. a.at) (λ m l. set l _ m) (λ _ _. refl))
