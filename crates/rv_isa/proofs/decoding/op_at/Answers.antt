use Rattle.rv_isa.proofs.decoding.op_at.Goals as goal

pub returns-in-99 : goal.returns-in-99
returns-in-99 c = cc (c.branch_at.ensures c.args.funct7 c.args.word)

pub returns-in-3 : goal.returns-in-3
returns-in-3 c = cc (c.load_at.ensures c.args.funct7 c.args.word)

pub returns-in-35 : goal.returns-in-35
returns-in-35 c = cc (c.store_at.ensures c.args.funct7 c.args.word)

pub returns-in-19 : goal.returns-in-19
returns-in-19 c = cc (c.immediate_at.ensures c.args.word)

pub returns-in-51 : goal.returns-in-51
returns-in-51 c = cc (c.register_at.ensures c.args.word)

pub returns-in-115 : goal.returns-in-115
returns-in-115 c = cc (c.whole_at.ensures c.args.funct3 c.args.funct7)
