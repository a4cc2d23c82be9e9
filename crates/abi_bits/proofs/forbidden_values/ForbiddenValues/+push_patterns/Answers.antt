use Rattle.std.proofs.Common.{rules}
use Rattle.abi_bits.specs.Pairs.{is_pattern, are_bytes}
use Rattle.abi_bits.specs.declared.forbidden_values.ForbiddenValues.{the_lemmas}
use Rattle.abi_bits.proofs.Forbids.{left_sound, right_sound, or_offered, or_all}
use Rattle.abi_bits.proofs.forbidden_values.ForbiddenValues.+push_patterns.Goals as goal

pub push_patterns-requires : goal.push_patterns-requires
push_patterns-requires t c = (search (rules, the_lemmas), rw c.deref.ensures (left_sound _ _ _ c.in-Or.is c.requires))

pub push_patterns-requires-in-Or : goal.push_patterns-requires-in-Or
push_patterns-requires-in-Or t c = (search (rules, the_lemmas), rw c.deref-in-Or.ensures (right_sound _ _ _ c.in-Or.is c.requires))

pub returns-in_ok-push_patterns-in-Or-2-clause-same : goal.returns-in_ok-push_patterns-in-Or-2-clause-same
returns-in_ok-push_patterns-in-Or-2-clause-same t c =
    or_offered _ _ _ _ _ _ c.in-Or.is (rw c.deref.ensures at c.in_ok-push_patterns-in-Or.ensures.same) (rw c.deref-in-Or.ensures at c.in_ok-push_patterns-in-Or-2.ensures.same)

pub returns-in_ok-push_patterns-in-Or-2-clause-patterns : goal.returns-in_ok-push_patterns-in-Or-2-clause-patterns
returns-in_ok-push_patterns-in-Or-2-clause-patterns t c =
    or_all is_pattern _ _ _ c.in-Or.is (rw c.deref.ensures at c.in_ok-push_patterns-in-Or.ensures.patterns) (rw c.deref-in-Or.ensures at c.in_ok-push_patterns-in-Or-2.ensures.patterns)

pub returns-in_ok-push_patterns-in-Or-2-clause-bytes : goal.returns-in_ok-push_patterns-in-Or-2-clause-bytes
returns-in_ok-push_patterns-in-Or-2-clause-bytes t c =
    or_all are_bytes _ _ _ c.in-Or.is (rw c.deref.ensures at c.in_ok-push_patterns-in-Or.ensures.bytes) (rw c.deref-in-Or.ensures at c.in_ok-push_patterns-in-Or-2.ensures.bytes)
