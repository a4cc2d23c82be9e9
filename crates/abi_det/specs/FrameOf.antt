use Rattle.abi_bits.specs.Forbidden.{tree}
use Rattle.abi_det.specs.Frame.{Frame}
use Rattle.abi_det.specs.declared.raw_layout.RawLayout.{RawLayout}

-- the frame of a layout
abbrev pub frame : RawLayout → Frame
frame raw = record {
  size = raw.size;
  align = raw.align;
  free = raw.unused;
  forbidden = tree raw.forbidden;
  niches = raw.niches;
  indirections = raw.indirections;
}
