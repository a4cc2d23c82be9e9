-- What a wrapper holds, and when two types are laid out alike.
use Rattle.std.specs.Prelude.{◌≡◌}
use Rattle.abi_num.specs.declared.target.Target.{Target}
use Rattle.abi_det.specs.Offers.{One}
use Rattle.abi_layout.specs.Frames.{written_frame}
use Rattle.abi_layout.specs.Trees.{Tree}
use Rattle.abi_result.specs.declared.stable_like.StableLike.{StableLike}

-- the value in it
abbrev pub value_of : {T As : Type 0} → StableLike T As → T
value_of it = it.value

-- the same size and the same alignment on a target
abbrev pub AlikeIn : Target → Tree → Tree → Type 0
AlikeIn target a b =
    ((written_frame One target a).size ≡ (written_frame One target b).size)
    × ((written_frame One target a).align ≡ (written_frame One target b).align)
