pub mod Semaphores
