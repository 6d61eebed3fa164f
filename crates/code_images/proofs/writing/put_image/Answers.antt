-- `code_images::writing::put_image` meets its contract: the edition, and each section behind the one before it.
use Rattle.code_images.proofs.StoredParts.{sections_put}
use Rattle.code_images.proofs.writing.put_image.Goals as goal

pub returns : goal.returns
returns c =
    sections_put c.args.k _ c.put_byte-start.ensures c.put_scheduler_part-first.ensures
    c.put_thread_part-second.ensures c.put_semaphore_part-third.ensures c.put_event_part-fourth.ensures c.put_flag_part-fifth.ensures
    c.put_message_part.ensures
