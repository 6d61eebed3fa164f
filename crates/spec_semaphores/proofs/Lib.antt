pub mod LawsOfSemaphores
