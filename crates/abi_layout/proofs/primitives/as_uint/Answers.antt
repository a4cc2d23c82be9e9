use Rattle.std.proofs.Common.{false}
use Rattle.abi_bits.specs.declared.saturating_add_value.SaturatingAddValue.TheVariants as count
use Rattle.abi_layout.proofs.Frames.{uint_lawful}
use Rattle.abi_layout.proofs.primitives.as_uint.Goals as goal

pub bare-requires : goal.bare-requires
bare-requires c = uint_lawful c.get.result count.Saturator false c.get.ensures.alignment
