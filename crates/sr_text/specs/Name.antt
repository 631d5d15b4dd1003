-- Which texts are names.
use Rattle.std.specs.Prelude.{ℕ, ◌==◌, ◌&&◌, ◌||◌, Bool, not, List, length, nat_lt}
use Rattle.std.specs.List.{list_all}

-- 33 to 126, and none of ( ) , = #
abbrev pub is_name_byte : ℕ → Bool
is_name_byte b = nat_lt 32 b && nat_lt b 127 && not (b == 40 || b == 41 || b == 44 || b == 61 || b == 35)

-- not empty, and each byte may stand in a name
abbrev pub is_name : List ℕ → Bool
is_name text = not (length text == 0) && list_all is_name_byte text
