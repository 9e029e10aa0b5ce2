-- The parts in which a message is returned: those of its chunks, which are not joined.
use Rattle.std.specs.Prelude.{◌≡◌, ℕ, List}
use Rattle.ua_chunk.specs.declared.chunk.Chunk.{Chunk}
use Rattle.ua_chunk.specs.Gathered.{bodies, gathered}
use Rattle.ua_channel.specs.Content.{Content}
use Rattle.ua_channel.specs.Content.Content.{Sends}

-- a frame with this content, after these chunks, ends a message in these parts: the bodies of its
-- chunks that are not empty, in order
pub record EndsMessageIn (before : List Chunk) (c : Content) (parts : List (List ℕ)) : Type 0 where
  pub chunk : Chunk
  pub carries : c ≡ Sends chunk
  pub parts_are : parts ≡ bodies (gathered before chunk)
