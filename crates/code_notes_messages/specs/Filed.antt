-- What a filing of the code means.
use Rattle.spec_notes.specs.Back as note
use Rattle.code_notes_messages.specs.declared.message_back.Filing.{Filing}

-- field by field the same
abbrev pub filing : Filing → note.Filing
filing r = record { messages = r.messages; out = r.out; at = r.at }
