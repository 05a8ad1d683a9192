-- The literals of this crate that stand for a computed value.
use mathlib.Core.Path.{◌≡◌, refl}
use Rattle.std.specs.Prelude.{Ok}
use Rattle.abi.specs.Size.{first_from, up8, exact, rights_space_of}

-- MAX_CONTROL_BYTES is `scm_rights_space(MAX_SCM_RIGHTS)`
pub max_control : rights_space_of 16 ≡ Ok 80
unfolding first_from up8 exact rights_space_of
max_control = refl
