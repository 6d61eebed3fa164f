-- What is predicted of a record fits the widths of its fields, so what is read does too and nothing of it is cut.
use Prim.Native.Nat.{ℕ, ◌-◌, ◌<◌}
use mathlib.Core.Path.{◌≡◌, refl}
use mathlib.Core.Bool.{Bool, true, false, cond, ◌&&◌, ◌||◌}
use mathlib.Core.List.{List, [], ◌∷◌}
use native.Mathlib.Omega.{arith}
use lib.Dec.{eqb, ltb}
use borrow.Author.Tests.{ltb-true}
use borrow.Table.Steps.{cases}
use Rattle.base_rows.specs.Rows.{row_from, cut, fitted, Fit}
use Rattle.base_rows.specs.Entries.{fields_from, flags_in, row_in}
use Rattle.base_rows.proofs.Fitted.{Bytes, drop_bytes, fitted_fit, rows_fit}
use Rattle.base_queue.specs.Tables.{one}
use Rattle.spec_kernel.specs.declared.records.Semaphore.{Semaphore}
use Rattle.spec_kernel.specs.declared.records.Event.{Event}
use Rattle.spec_kernel.specs.declared.records.Message.{Message}
use Rattle.spec_calls.specs.declared.call.Call.{Call}
use Rattle.spec_refusals.specs.Refusals.{is, is_one_of}
use Rattle.spec_notes.specs.Rows.{semaphore_widths, event_widths, message_widths}
use Rattle.spec_notes.specs.Predicted.{count_before, predicted_semaphore, predicted_event, predicted_message}

-- a row that is read beside a predicted one that fits
row_whole : (ws : List ℕ) (flags : ℕ) (ps s : List ℕ) → Bytes s → Fit ws ps → fitted ws (row_from ws flags ps s) ≡ row_from ws flags ps s
row_whole ws flags ps s h q = fitted_fit ws (row_from ws flags ps s) (rows_fit ws flags ps s h q)

-- an entry's row that is read by widths of at most four bytes, beside a predicted one that fits
pub read_fits : (ws ps : List ℕ) (head : ℕ) (s : List ℕ) → cut ws ≡ ws → Bytes s → Fit ws ps
    → fitted ws (row_in (cut ws) ps head s) ≡ row_in ws ps head s
unfolding row_in
read_fits ws ps head s e h q = rw e (row_whole ws (flags_in head s) ps _ (drop_bytes (fields_from head) s h) q)

pub below : (b : Bool) (x y n : ℕ) → x < n → y < n → cond b x y < n
below true x y n p q = p
below false x y n p q = q

one_below : (b : Bool) → one b < 256
one_below true = omega arith
one_below false = omega arith

-- ---- semaphores
pub cut_semaphore : cut semaphore_widths ≡ semaphore_widths
unfolding cut
cut_semaphore = refl

count_below : (c : Call) (r : Semaphore) → r.count < 65536 → count_before c r < 65536
count_below c r h =
    let n = r.count in
    below (is c 18) _ _ 65536 (cases (ltb n 65535) (λ e. rw e (omega (arith, ltb-true n 65535 e))) (λ e. rw e h))
    (below (is_one_of c (19 ∷ 28 ∷ []) || (is c 1 && eqb n r.maximum)) (n - 1) n 65536 (omega arith) h)

pub semaphore_fits : (c : Call) (r : Semaphore) → r.count < 65536 → r.maximum < 65536 → r.ticks < 4294967296 → r.period < 4294967296
    → Fit semaphore_widths (predicted_semaphore c r)
unfolding predicted_semaphore
semaphore_fits c r n m t p = (
  below (is c 14) _ _ 256 (omega arith) (omega arith),
  (
    below (is c 14) _ _ 65536 (omega arith) (count_below c r n),
    (
      below (is c 14) _ _ 65536 (omega arith) m,
      (below (is c 1) _ _ 4294967296 (omega arith) t, (p, (omega arith, (omega arith, (omega arith, tt))))),
    ),
  ),
)

-- ---- events
pub cut_event : cut event_widths ≡ event_widths
unfolding cut
cut_event = refl

pub event_fits : (r : Event) → r.mask < 4294967296 → r.values < 4294967296 → Fit event_widths (predicted_event r)
event_fits r m v = (one_below r.any, (m, (v, (omega arith, (omega arith, (omega arith, (omega arith, (omega arith, tt))))))))

-- ---- messages
pub cut_message : cut message_widths ≡ message_widths
unfolding cut
cut_message = refl

pub message_fits : (c : Call) (runner : ℕ) (r : Message) → c.a < 256 → runner < 256 → r.owner < 256 → r.sender < 256 → r.kind < 65536
    → r.size < 4294967296
    → r.address < 4294967296 → Fit message_widths (predicted_message c runner r)
unfolding predicted_message
message_fits c runner r a u o s k z d = (
  below (is c 24) _ _ 256 (omega arith) (omega arith),
  (
    below (is c 24) _ _ 256 (omega arith) (below (is c 3) _ _ 256 a (below (is c 25) _ _ 256 u (below (is c 26) _ _ 256 s o))),
    (
      below (is c 24) _ _ 256 (omega arith) (below (is c 3) _ _ 256 a (below (is c 25) _ _ 256 u s)),
      (
        below (is c 24) _ _ 65536 (omega arith) k,
        (
          below (is c 24) _ _ 4294967296 (omega arith) z,
          (below (is c 24) _ _ 4294967296 (omega arith) d, (omega arith, (below (is c 27) _ _ 256 (omega arith) (omega arith), tt))),
        ),
      ),
    ),
  ),
)
