-- `code_rules::threads_kept` meets its contract: semaphores, threads, and their two tables.
use native.Mathlib.Omega.{arith}
use Rattle.std.proofs.lemmas.Grind.{common_steps}
use Rattle.code_rules.proofs.Parts.{objects, semaphores_part, threads_part, places_part, time_part}
use Rattle.code_rules.proofs.threads_kept.Goals as goal

pub returns-then-not-s : goal.returns-then-not-s
returns-then-not-s c =
    let semaphores = semaphores_part c.args.k.now c.of_semaphores-s.ensures in
    grind (arith, common_steps, semaphores)

pub returns-then-table_kept : goal.returns-then-table_kept
returns-then-table_kept c =
    let k = c.args.k.now in
    let t = c.of_threads-t.ensures in
    let semaphores = semaphores_part k c.of_semaphores-s.ensures in
    let threads = threads_part k t (objects k c.of_semaphores-s.ensures c.of_events.ensures) in
    let places = places_part k t in
    let time = time_part k t in
    grind (arith, common_steps, semaphores, threads, places, time)

pub returns-else-table_kept : goal.returns-else-table_kept
returns-else-table_kept c =
    let k = c.args.k.now in
    let t = c.of_threads-t.ensures in
    let semaphores = semaphores_part k c.of_semaphores-s.ensures in
    let threads = threads_part k t (objects k c.of_semaphores-s.ensures c.of_events.ensures) in
    let places = places_part k t in
    grind (arith, common_steps, semaphores, threads, places)
