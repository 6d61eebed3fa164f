-- Runs over an image: the calls and undos of a run over a state, each on the image that the one before left.
use Rattle.std.specs.Prelude.{ℕ, ◌≤◌, ◌≡◌, List, [], ◌∷◌, length}
use Rattle.spec_kernel.specs.declared.records.Kernel.{Kernel}
use Rattle.spec_answers.specs.Runs.{Run, Step, call, undo, AreSteps, given, after_all}
use Rattle.spec_images.specs.declared.Stored.{Stored}
use Rattle.spec_images.specs.Images.{longest_image}
use Rattle.spec_images.specs.OnImages.{called_on, lent_called, log_called_on, undone_on, lent_undone}
use Rattle.spec_images.specs.Promises.{Holds}

-- where it stands: the lent room, how many of its bytes are the image, the lent log, and how much of it is used
pub record Place : Type 0 where
  pub lent : List ℕ
  pub size : ℕ
  pub log : List ℕ
  pub used : ℕ

-- what comes back
abbrev pub given_on : Place → Step → Stored
given_on p (call bytes) = called_on p.lent p.size bytes p.log p.used
given_on p undo = undone_on p.lent p.size p.log p.used

-- what the room and the log hold then
abbrev pub lent_on : Place → Step → List ℕ
lent_on p (call bytes) = lent_called p.lent p.size bytes p.log p.used
lent_on p undo = lent_undone p.lent p.size p.log p.used

abbrev pub log_on : Place → Step → List ℕ
log_on p (call bytes) = log_called_on p.lent p.size bytes p.log p.used
log_on p undo = p.log

abbrev pub after_on : Place → Step → Place
after_on p s = record { lent = lent_on p s; size = (given_on p s).length; log = log_on p s; used = (given_on p s).used }

abbrev pub after_all_on : Place → List Step → Place
after_all_on p [] = p
after_all_on p (s ∷ steps) = after_all_on (after_on p s) steps

-- ---- The run over the state k with the same log.
abbrev pub over : Place → Kernel → Run
over p k = record { kernel = k; log = p.log; used = p.used }

-- The room holds the image of the run's state, and the logs are alike.
pub record Alike (p : Place) (r : Run) : Type 0 where
  pub holds : Holds p.lent p.size r.kernel
  pub log : p.log ≡ r.log
  pub used : p.used ≡ r.used

-- In room for every image each step is answered as on the state,
unfoldable pub StepsAlike : Type 0
StepsAlike =
    (p : Place) (k : Kernel) (s : Step) → Holds p.lent p.size k → longest_image ≤ length p.lent
    → (given_on p s).answer ≡ (given (over p k) s).answer

-- and after any mix of calls and undos from an empty log the image is that of the run's state: what is promised of runs over states holds
-- over images too.
unfoldable pub RunsAlike : Type 0
RunsAlike =
    (p : Place) (k : Kernel) (steps : List Step) → Holds p.lent p.size k → longest_image ≤ length p.lent → p.used ≡ 0
    → AreSteps steps
    → Alike (after_all_on p steps) (after_all (over p k) steps)
