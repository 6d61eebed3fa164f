-- A state written into lent room, and a call and an undo on an image that stands in lent room: what comes back, and what that room and the
-- log hold then [02 §2].
use Rattle.std.specs.Prelude.{ℕ, Bool, cond, ◌&&◌, List, eqb, leb, length, take, replicate}
use Rattle.base_bytes.specs.Logs.{room, noted}
use Rattle.spec_kernel.specs.declared.records.Kernel.{Kernel}
use Rattle.spec_rules.specs.Tests.{keeps_rules}
use Rattle.spec_answers.specs.declared.Answer.{Answer}
use Rattle.spec_answers.specs.declared.Logged.{Logged}
use Rattle.spec_answers.specs.Steps.{answer}
use Rattle.spec_answers.specs.Logs.{called_with, log_called, undone}
use Rattle.spec_images.specs.declared.Written.{Written}
use Rattle.spec_images.specs.declared.Stored.{Stored}
use Rattle.spec_images.specs.Images.{image_of, is_image, state_in}

-- ---- writing
abbrev pub written : ℕ → ℕ → Written
written number length = record { number = number; length = length }

-- there is room for the state's image from the first lent byte on
abbrev pub fits : Kernel → List ℕ → Bool
fits k lent = room lent 0 (image_of k)

-- 14 for a broken state, 13 for too little room; else the image's length [02 §2].
unfoldable pub stored_in : Kernel → List ℕ → Written
stored_in k lent =
    cond (keeps_rules k) (cond (fits k lent) (written 0 (length (image_of k))) (written 13 0)) (written 14 0)

-- The image stands in front, and what is behind it stays; on a refusal nothing is written [02 §2].
unfoldable pub lent_then : Kernel → List ℕ → List ℕ
lent_then k lent = cond (keeps_rules k) (noted lent 0 (image_of k)) lent

-- ---- on a stored image, which is the first `n` of the lent bytes
abbrev pub stored : Answer → ℕ → ℕ → Stored
stored x n used = record { answer = x; length = n; used = used }

-- it is there, and is the image of a state that keeps the rules; n may be beyond the lent bytes
unfoldable pub holds_image : List ℕ → ℕ → Bool
holds_image lent n = leb n (length lent) && is_image (take n lent)

abbrev pub state_at : List ℕ → ℕ → Kernel
state_at lent n = state_in (take n lent)

-- What the same on the state gives; last of all 13 where its image has no room. Where that is refused, or has no room, all stays [02 §2].
abbrev pub keeping : Logged → Kernel → List ℕ → ℕ → ℕ → Stored
keeping l k lent n used =
    cond (eqb l.answer.number 0)
    (cond (fits l.kernel lent) (stored l.answer (length (image_of l.kernel)) l.used) (stored (answer 13 255 k.runner) n used))
    (stored l.answer n used)

-- the lent bytes then
abbrev pub keeping_in : Logged → List ℕ → List ℕ
keeping_in l lent = cond (eqb l.answer.number 0) (noted lent 0 (image_of l.kernel)) lent

-- 16 stands in 14's place, with value and runner 255 [02 §2].
abbrev pub damaged : ℕ → ℕ → Stored
damaged n used = stored (answer 16 255 255) n used

-- ---- a call
unfoldable pub called_on : List ℕ → ℕ → List ℕ → List ℕ → ℕ → Stored
called_on lent n bytes log used =
    let k = state_at lent n in
    cond (holds_image lent n) (keeping (called_with k bytes log used) k lent n used) (damaged n used)

unfoldable pub lent_called : List ℕ → ℕ → List ℕ → List ℕ → ℕ → List ℕ
lent_called lent n bytes log used =
    cond (holds_image lent n) (keeping_in (called_with (state_at lent n) bytes log used) lent) lent

-- The note is written only where the image has room too [02 §2].
unfoldable pub log_called_on : List ℕ → ℕ → List ℕ → List ℕ → ℕ → List ℕ
log_called_on lent n bytes log used =
    let k = state_at lent n in
    let l = called_with k bytes log used in
    cond (holds_image lent n) (cond (fits l.kernel lent) (log_called k bytes log used) log) log

-- ---- an undo
unfoldable pub undone_on : List ℕ → ℕ → List ℕ → ℕ → Stored
undone_on lent n log used =
    let k = state_at lent n in
    cond (holds_image lent n) (keeping (undone k log used) k lent n used) (damaged n used)

unfoldable pub lent_undone : List ℕ → ℕ → List ℕ → ℕ → List ℕ
lent_undone lent n log used = cond (holds_image lent n) (keeping_in (undone (state_at lent n) log used) lent) lent

-- ---- a record of any length
-- One that isn't sixteen bytes stands for sixteen zeros, whose kind is unknown: it gets 1, after 16.
unfoldable pub record_or0 : List ℕ → List ℕ
record_or0 s = cond (eqb (length s) 16) s (replicate 16 0)
