use Rattle.text_bounds.proofs.room.+hex_digits.Given as goal

abbrev pub decreases-hex_digits : goal.decreases-hex_digits
decreases-hex_digits l = l.most
