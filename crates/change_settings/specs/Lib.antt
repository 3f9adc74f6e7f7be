pub mod ChangeSettings
