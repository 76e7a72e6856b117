use Rattle.page_parts.proofs.letters.+put_letter.Given as goal

abbrev pub decreases-put_letter : goal.decreases-put_letter
decreases-put_letter l = l.index
