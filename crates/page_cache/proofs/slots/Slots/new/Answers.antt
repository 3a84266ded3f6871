use Rattle.page_cache.proofs.slots.Slots.new.Goals as goal

pub returns-clause-copies : goal.returns-clause-copies
returns-clause-copies c = c.in_ok-copies.ensures.items_if_clones_equal (λ y e. e)

pub returns-clause-twins : goal.returns-clause-twins
returns-clause-twins c = c.in_ok-twins.ensures.items_if_clones_equal (λ y e. e)
