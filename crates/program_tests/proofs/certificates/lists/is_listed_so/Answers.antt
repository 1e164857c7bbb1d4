use Rattle.program_tests.proofs.certificates.lists.is_listed_so.Goals as goal

pub listed-requires-clause-ordered : goal.listed-requires-clause-ordered
listed-requires-clause-ordered c = c.in_ok-order.ensures.answer

pub listed_in_order-requires-clause-ordered : goal.listed_in_order-requires-clause-ordered
listed_in_order-requires-clause-ordered c = c.in_ok-order.ensures.answer
