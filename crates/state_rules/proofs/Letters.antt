-- The room of arrays for sets of letters, passed on.
pub use Rattle.lettered_rules.proofs.Letters.{set_room}
