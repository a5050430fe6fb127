use Rattle.std.proofs.Common.{lit<}
use Rattle.s2cell.specs.Curve.{quadrant, quadrants, turn, i_within, j_within}
use Rattle.s2cell.proofs.Places.{at_within}
use Rattle.s2cell.proofs.laws.known_places.Goals as goal

pub returns-clause-even : goal.returns-clause-even
unfolding i_within j_within quadrant quadrants turn
returns-clause-even c = (
  at_within 30 0 0 (lit< tt) (lit< tt),
  (
    at_within 30 0 1 (lit< tt) (lit< tt),
    (
      at_within 30 0 2 (lit< tt) (lit< tt),
      (
        at_within 30 0 3 (lit< tt) (lit< tt),
        (
          at_within 30 0 4 (lit< tt) (lit< tt),
          (
            at_within 30 0 5 (lit< tt) (lit< tt),
            (
              at_within 30 0 6 (lit< tt) (lit< tt),
              (
                at_within 30 0 7 (lit< tt) (lit< tt),
                (
                  at_within 30 0 8 (lit< tt) (lit< tt),
                  (
                    at_within 30 0 9 (lit< tt) (lit< tt),
                    (
                      at_within 30 0 10 (lit< tt) (lit< tt),
                      (
                        at_within 30 0 11 (lit< tt) (lit< tt),
                        (
                          at_within 30 0 12 (lit< tt) (lit< tt),
                          (
                            at_within 30 0 13 (lit< tt) (lit< tt),
                            (
                              at_within 30 0 14 (lit< tt) (lit< tt),
                              (
                                at_within 30 0 15 (lit< tt) (lit< tt),
                                tt,
                              ),
                            ),
                          ),
                        ),
                      ),
                    ),
                  ),
                ),
              ),
            ),
          ),
        ),
      ),
    ),
  ),
)

pub returns-clause-odd : goal.returns-clause-odd
unfolding i_within j_within quadrant quadrants turn
returns-clause-odd c = (
  at_within 30 1 0 (lit< tt) (lit< tt),
  (
    at_within 30 1 1 (lit< tt) (lit< tt),
    (
      at_within 30 1 2 (lit< tt) (lit< tt),
      (
        at_within 30 1 3 (lit< tt) (lit< tt),
        (
          at_within 30 1 4 (lit< tt) (lit< tt),
          (
            at_within 30 1 5 (lit< tt) (lit< tt),
            (
              at_within 30 1 6 (lit< tt) (lit< tt),
              (
                at_within 30 1 7 (lit< tt) (lit< tt),
                (
                  at_within 30 1 8 (lit< tt) (lit< tt),
                  (
                    at_within 30 1 9 (lit< tt) (lit< tt),
                    (
                      at_within 30 1 10 (lit< tt) (lit< tt),
                      (
                        at_within 30 1 11 (lit< tt) (lit< tt),
                        (
                          at_within 30 1 12 (lit< tt) (lit< tt),
                          (
                            at_within 30 1 13 (lit< tt) (lit< tt),
                            (
                              at_within 30 1 14 (lit< tt) (lit< tt),
                              (
                                at_within 30 1 15 (lit< tt) (lit< tt),
                                tt,
                              ),
                            ),
                          ),
                        ),
                      ),
                    ),
                  ),
                ),
              ),
            ),
          ),
        ),
      ),
    ),
  ),
)

pub returns-clause-last : goal.returns-clause-last
unfolding i_within j_within quadrant quadrants turn
returns-clause-last c = at_within 30 0 1152921504606846975 (lit< tt) (lit< tt)
