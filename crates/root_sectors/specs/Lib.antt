-- How a written root sector is judged.
pub mod Root
pub mod Records
pub mod Judged
pub mod RootLaws
