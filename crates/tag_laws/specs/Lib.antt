-- The slots of declared tags: entries on them, what passes entered there, and what their locks kept.
pub mod DeclaredTags
