-- `code_notes_threads::thread_back::entry_back` meets its contract: id, code and fields; what is read fits.
use Prim.Native.Nat.{◌<◌}
use native.Mathlib.Omega.{arith}
use lib.ListN.{get_or, drop}
use Rattle.base_rows.proofs.Fitted.{Bytes, drop_bytes}
use Rattle.spec_notes.specs.Back.{thread_read}
use Rattle.code_notes_threads.proofs.ReadThreads.{Typed, cut_thread, row_fitted}
use Rattle.code_notes_entries.proofs.Typed.{data_typed}
use Rattle.code_notes_threads.proofs.thread_back.entry_back.Goals as goal

pub returns : goal.returns
unfolding thread_read
returns c =
    let a = c.args in
    let s = a.e.now in
    let o = c.thread_at-after.type_inv.1.1.1 in
    let h : Bytes s = λ i. omega (arith, c.type_inv.e i) in
    let what = data_typed c.thread_at-after.result.condition _ o.1.1.0 in
    let z : Typed c.thread_at-after.result =
    (omega (arith, o.0), omega (arith, o.1.0), what, omega (arith, o.1.1.1.0), omega (arith, o.1.1.1.1.1.0)) in
    let x : a.c.a < 256 = omega arith in
    let code = c.code_back-code.result in
    let f = row_fitted a.c c.thread_at-after.result code (get_or s 0 0) (drop 1 s) x z (drop_bytes 1 s h) in
    rw (
      c.put_record.ensures,
      c.from_row-r.ensures,
      c.row_in-row.ensures,
      c.widths_of.ensures,
      c.predicted-guess.ensures,
      f,
      cut_thread code,
      c.thread_at-after.ensures,
      c.code_back-code.ensures,
      c.id_in-t.ensures,
    )
