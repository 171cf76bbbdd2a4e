-- What a printer leaves in the buffer that it was lent. Definitions only. Assumes nothing.
use Rattle.std.specs.Prelude.{◌≡◌, List, ℕ, ◌+◌, length}
use Rattle.std.proofs.lemmas.List.Edits.{sets}

-- bytes were written from a place on, nothing else has changed, and `next` is the place after them
pub record Written (before : List ℕ) (at : ℕ) (bytes after : List ℕ) (next : ℕ) : Type 0 where
  pub list : after ≡ sets before at bytes
  pub place : next ≡ at + length bytes
