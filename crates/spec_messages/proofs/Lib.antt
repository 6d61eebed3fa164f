pub mod LawsOfMessages
