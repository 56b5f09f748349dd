-- What a block says of itself: "bytes 0, 1 its number from 0; 2, 3 its instruction count", "504, 505 the total count", "506, 507 the
-- number of keys".
use Rattle.std.specs.Prelude.{ℕ, ◌≡◌, List}
use Rattle.paper.specs.Numbers.{number_at}
use Rattle.blocks.specs.declared.fields.Block.{Block}

pub record BlockOf (b : List ℕ) (r : Block) : Type 0 where
  pub number : r.number ≡ number_at b 0 2
  pub count : r.count ≡ number_at b 2 2
  pub total : r.total ≡ number_at b 504 2
  pub keys : r.keys ≡ number_at b 506 2
