-- `try_entries::again::value_in` meets its contract: without sections there is no id, and else the kind says in which one it stands.
use Rattle.std.proofs.Common.{◌≡◌, ℕ, Bool, true, false, cond, ◌||◌, eqb, List, [], get_or, sym, refl, ap, ◌∙◌, ⊎_elim, arith, ne_eqb}
use Rattle.base_queue.specs.Lists.{first_of}
use Rattle.spec_notes.specs.Notes.{section_count}
use Rattle.spec_notes.specs.Frames.{nothing, sections, sections_at, frames_of}
use Rattle.code_notes_frame.specs.declared.frames.Decoded.{Decoded}
use Rattle.code_notes_frame.specs.Meant.{part_of, meant}
use Rattle.try_entries.specs.Entries.{value_in}
use Rattle.try_entries.proofs.again.value_in.Goals as goal
use Rattle.try_entries.proofs.again.value_in.Goals.{After-part_of-s}

same : (n : ℕ) (a b d f : Bool) → n ≡ cond a n (cond b n (cond d n (cond f n n)))
same n true b d f = refl
same n false true d f = refl
same n false false true f = refl
same n false false false true = refl
same n false false false false = refl

abbrev parts : After-part_of-s → List (List ℕ)
parts c = sections_at section_count (part_of c.in-Sections.p c.args.note.now)

framed : (c : After-part_of-s) → frames_of c.args.note.now ≡ sections (parts c)
framed c = sym c.frames_of.ensures.1 ∙ ap (λ (d : Decoded). meant d c.args.note.now) c.in-Sections.is

section_in : (c : After-part_of-s) (i : ℕ) → get_or (sections_at section_count c.part_of-s.result.now) i [] ≡ get_or (parts c) i []
section_in c i = ap (λ (s : List ℕ). get_or (sections_at section_count s) i []) c.part_of-s.ensures

pub returns-in_default : goal.returns-in_default
unfolding value_in
returns-in_default c =
    let note = c.args.note.now in
    let e : frames_of note ≡ nothing =
    sym c.frames_of.ensures.1 ∙ ap (λ (d : Decoded). meant d note) c.in_default.is in
    let kind = get_or note 0 0 in
    rw e (same 255 (eqb kind 2) (eqb kind 14) (eqb kind 24 || eqb kind 27) (eqb kind 31))

pub returns-in-2 : goal.returns-in-2
unfolding value_in
returns-in-2 c =
    rw (framed (goal.at.returns-in-2 c).After-part_of-s, sym c.byte_at.ensures ∙ c.in-2.is)
    (c.first_of.ensures ∙ ap first_of (c.section_of.ensures ∙ section_in (goal.at.returns-in-2 c).After-part_of-s _))

pub returns-in-14 : goal.returns-in-14
unfolding value_in
returns-in-14 c =
    rw (framed (goal.at.returns-in-14 c).After-part_of-s, sym c.byte_at.ensures ∙ c.in-14.is)
    (c.first_of-in-14.ensures ∙ ap first_of (c.section_of-in-14.ensures ∙ section_in (goal.at.returns-in-14 c).After-part_of-s _))

pub returns-in-24 : goal.returns-in-24
unfolding value_in
returns-in-24 c =
    let q = (goal.at.returns-in-24 c).After-part_of-s in
    let b = c.byte_at in
    let r : c.first_of-in-24.result ≡ first_of (get_or (parts q) 5 []) =
    c.first_of-in-24.ensures ∙ ap first_of (c.section_of-in-24.ensures ∙ section_in (goal.at.returns-in-24 c).After-part_of-s _) in
    ⊎_elim (λ (e : b.result ≡ 24). rw (framed q, sym b.ensures ∙ e) r) (λ (e : b.result ≡ 27). rw (framed q, sym b.ensures ∙ e) r)
    c.in-24.is

pub returns-in-31 : goal.returns-in-31
unfolding value_in
returns-in-31 c =
    rw (framed (goal.at.returns-in-31 c).After-part_of-s, sym c.byte_at.ensures ∙ c.in-31.is)
    (c.first_of-in-31.ensures ∙ ap first_of (c.section_of-in-31.ensures ∙ section_in (goal.at.returns-in-31 c).After-part_of-s _))

pub returns-in_default-byte_at : goal.returns-in_default-byte_at
unfolding value_in
returns-in_default-byte_at c =
    let b = c.byte_at.ensures in
    let k = get_or c.args.note.now 0 0 in
    rw (
      ne_eqb k 2 (λ e. omega arith),
      ne_eqb k 14 (λ e. omega arith),
      ne_eqb k 24 (λ e. grind (arith)),
      ne_eqb k 27 (λ e. grind (arith)),
      ne_eqb k 31 (λ e. omega arith),
    )
