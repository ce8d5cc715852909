-- Why a file is handed to deletion, kept up from call to call.
pub mod Reasons
