use Rattle.abi_bits_tests.proofs.tests.a_mask_is_probed_byte_by_byte.Given as goal

-- the ledger of the steps is the new one
abbrev pub ghosts-probed : goal.ghosts-probed
ghosts-probed g a = record { name = a.blank.name; parts = a.blank.parts }
