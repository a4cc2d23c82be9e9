use Rattle.std.specs.Prelude.{ℕ, Bool, true, false, ◌+◌, ◌%◌, ◌==◌, nat_le, nat_lt}

-- a bit as a number
abbrev pub digit : Bool → ℕ
digit true = 1
digit false = 0

-- the last digit of the sum of three bits, and of the difference of the first and the two others
abbrev pub sum_digit : Bool → Bool → Bool → Bool
sum_digit a b carry = (digit a + digit b + digit carry) % 2 == 1

-- what is carried to the next place of a sum
abbrev pub sum_carry : Bool → Bool → Bool → Bool
sum_carry a b carry = nat_le 2 (digit a + digit b + digit carry)

-- what is borrowed from the next place of a difference
abbrev pub difference_carry : Bool → Bool → Bool → Bool
difference_carry a b carry = nat_lt (digit a) (digit b + digit carry)
