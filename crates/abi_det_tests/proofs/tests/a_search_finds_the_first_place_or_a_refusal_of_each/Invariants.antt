use Rattle.abi_det_tests.proofs.tests.a_search_finds_the_first_place_or_a_refusal_of_each.Given as goal

-- the ledger of the steps is the new one
abbrev pub ghosts-searched : goal.ghosts-searched
ghosts-searched g a = record { name = a.blank.name; parts = a.blank.parts }
