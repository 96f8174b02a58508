-- The names of reasons why linking call frames is refused.
use Rattle.std.specs.Prelude.{ℕ, List, codes}
use Rattle.dw_link_frames.specs.declared.error.LinkFrameError.{LinkFrameError}
use Rattle.dw_link_frames.specs.declared.error.LinkFrameError.TheVariants.{Write, Link, NoMemory}

-- the variant's name
abbrev pub link_frame_error_name : LinkFrameError → List ℕ
link_frame_error_name (Write _ _) = codes "Write"
link_frame_error_name (Link _) = codes "Link"
link_frame_error_name NoMemory = codes "NoMemory"
