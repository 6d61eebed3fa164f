-- What a C program is given: an answer as one number, and lengths behind pointers. Each entry is the call or undo on an image.
use Rattle.std.specs.Prelude.{ℕ, ◌+◌, ◌*◌, ◌/◌, ◌%◌, ◌<◌, ◌≡◌, cond, List, eqb, length}
use Rattle.spec_kernel.specs.declared.records.Kernel.{Kernel}
use Rattle.spec_kernel.specs.Records.{fresh}
use Rattle.spec_answers.specs.declared.Answer.{Answer}
use Rattle.spec_answers.specs.Steps.{answer}
use Rattle.spec_images.specs.OnImages.{written, stored, record_or0}
use Rattle.spec_images.specs.Promises.{Holds, StoredAway, AnsweredOn, UndoneOn}

-- The number in the lowest byte, the value in the next, the runner in the third.
abbrev pub packed : Answer → ℕ
packed x = x.number + 256 * x.value + 65536 * x.runner

-- each byte of it reads back
unfoldable pub Unpacked : Type 0
Unpacked =
    (x : Answer) → x.number < 256 → x.value < 256 → x.runner < 256
    → (packed x % 256 ≡ x.number) × (packed x / 256 % 256 ≡ x.value) × (packed x / 65536 ≡ x.runner)

-- ---- The fresh state's image: number 0, or 13 where it has no room; value and runner 255. The length is set only with 0.
pub record FreshForC (lent : List ℕ) (n r : ℕ) (lent' : List ℕ) (n' : ℕ) : Type 0 where
  pub number : ℕ
  pub size : ℕ
  pub answered : r ≡ packed (answer number 255 255)
  pub promised : StoredAway fresh lent (written number size) lent'
  pub length : n' ≡ cond (eqb number 0) size n

-- ---- A record of any length on an image; n, used and n', used' are the lengths before and after.
pub record RunForC (lent : List ℕ) (n : ℕ) (bytes log : List ℕ) (used r : ℕ) (lent' : List ℕ) (n' : ℕ) (log' : List ℕ) (used' : ℕ)
    : Type 0 where
  pub given : Answer
  pub answered : r ≡ packed given
  pub promised : AnsweredOn lent n (record_or0 bytes) log used (stored given n' used') lent' log'
  -- one that isn't sixteen bytes gets 1, where there is an image
  pub other_length : (k : Kernel) → Holds lent n k → (length bytes ≡ 16 → ⊥) → given ≡ answer 1 255 k.runner

-- ---- The undo on an image.
pub record UndoForC (lent : List ℕ) (n : ℕ) (log : List ℕ) (used r : ℕ) (lent' : List ℕ) (n' used' : ℕ) : Type 0 where
  pub given : Answer
  pub answered : r ≡ packed given
  pub promised : UndoneOn lent n log used (stored given n' used') lent'
